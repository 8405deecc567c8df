-- `desk::by_kind` meets its contract: what each kind's function ensures is what its kind needs and does.
-- Assumes nothing.
use mathlib.Core.Path.{refl, ◌∙◌}
use native.Mathlib.Omega.{arith}
use Rattle.kinds.specs.declared.Kind.TheVariants.{Begin, Write, Ask, Serve, Return, Commit, Prepare, Decide, GiveUp, Learn, Apply, Advance, Abandon}
use Rattle.desk.specs.Acts.{needs, does, rise}
use Rattle.desk.proofs.Acts.{acts, still}
use Rattle.desk.proofs.Fields.{asked_value}
use Rattle.desk.proofs.by_kind.Goals as goal

pub ask-requires : goal.ask-requires
ask-requires c = asked_value _ _ _ _ c.requires.0 c.requires.1 (c.requires.2 ∙ c.in-Ask.is)

pub apply-requires : goal.apply-requires
apply-requires c t k h l = c.requires.0.values t k h (let e = c.requires.0.few in omega arith)

pub returns-in-Begin : goal.returns-in-Begin
unfolding needs rise does
returns-in-Begin c = acts c.args.g.now _ _ _ _ c.requires.1 _ c.is_cut-cut.ensures Begin (c.requires.2 ∙ c.in-Begin.is) c.begin.result _ c.begin.ensures.0 _ _ c.begin.ensures.1 refl

pub returns-in-Write : goal.returns-in-Write
unfolding needs rise does
returns-in-Write c = acts c.args.g.now _ _ _ _ c.requires.1 _ c.is_cut-cut.ensures Write (c.requires.2 ∙ c.in-Write.is) c.write.result _ c.write.ensures.0 _ _ c.write.ensures.1 refl

pub returns-in-Ask : goal.returns-in-Ask
unfolding needs rise does
returns-in-Ask c = acts c.args.g.now _ _ _ _ c.requires.1 _ c.is_cut-cut.ensures Ask (c.requires.2 ∙ c.in-Ask.is) c.ask.result _ c.ask.ensures _ _ (still _ _ _) refl

pub returns-in-Serve : goal.returns-in-Serve
unfolding needs rise does
returns-in-Serve c = acts c.args.g.now _ _ _ _ c.requires.1 _ c.is_cut-cut.ensures Serve (c.requires.2 ∙ c.in-Serve.is) c.serve.result _ c.serve.ensures _ _ (still _ _ _) refl

pub returns-in-Return : goal.returns-in-Return
unfolding needs rise does
returns-in-Return c = acts c.args.g.now _ _ _ _ c.requires.1 _ c.is_cut-cut.ensures Return (c.requires.2 ∙ c.in-Return.is) c.hand.result _ c.hand.ensures.0 _ _ c.hand.ensures.1 refl

pub returns-in-Commit : goal.returns-in-Commit
unfolding needs rise does
returns-in-Commit c = acts c.args.g.now _ _ _ _ c.requires.1 _ c.is_cut-cut.ensures Commit (c.requires.2 ∙ c.in-Commit.is) c.commit.result _ c.commit.ensures.0 _ _ c.commit.ensures.1 refl

pub returns-in-Prepare : goal.returns-in-Prepare
unfolding needs rise does
returns-in-Prepare c = acts c.args.g.now _ _ _ _ c.requires.1 _ c.is_cut-cut.ensures Prepare (c.requires.2 ∙ c.in-Prepare.is) c.prepare.result _ c.prepare.ensures.0 _ _ c.prepare.ensures.1 refl

pub returns-in-Decide : goal.returns-in-Decide
unfolding needs rise does
returns-in-Decide c = acts c.args.g.now _ _ _ _ c.requires.1 _ c.is_cut-cut.ensures Decide (c.requires.2 ∙ c.in-Decide.is) c.decide.result _ c.decide.ensures _ _ (still _ _ _) refl

pub returns-in-GiveUp : goal.returns-in-GiveUp
unfolding needs rise does
returns-in-GiveUp c = acts c.args.g.now _ _ _ _ c.requires.1 _ c.is_cut-cut.ensures GiveUp (c.requires.2 ∙ c.in-GiveUp.is) c.give_up.result _ c.give_up.ensures _ _ (still _ _ _) refl

pub returns-in-Learn : goal.returns-in-Learn
unfolding needs rise does
returns-in-Learn c = acts c.args.g.now _ _ _ _ c.requires.1 _ c.is_cut-cut.ensures Learn (c.requires.2 ∙ c.in-Learn.is) c.learn.result _ c.learn.ensures.0 _ _ c.learn.ensures.1 refl

pub returns-in-Apply : goal.returns-in-Apply
unfolding needs rise does
returns-in-Apply c = acts c.args.g.now _ _ _ _ c.requires.1 _ c.is_cut-cut.ensures Apply (c.requires.2 ∙ c.in-Apply.is) c.apply.result _ c.apply.ensures.0 _ _ c.apply.ensures.1 refl

pub returns-in-Advance : goal.returns-in-Advance
unfolding needs rise does
returns-in-Advance c = acts c.args.g.now _ _ _ _ c.requires.1 _ c.is_cut-cut.ensures Advance (c.requires.2 ∙ c.in-Advance.is) c.advance.result _ c.advance.ensures _ _ (still _ _ _) refl

pub returns-in-Abandon : goal.returns-in-Abandon
unfolding needs rise does
returns-in-Abandon c = acts c.args.g.now _ _ _ _ c.requires.1 _ c.is_cut-cut.ensures Abandon (c.requires.2 ∙ c.in-Abandon.is) c.abandon.result _ c.abandon.ensures _ _ (still _ _ _) refl
