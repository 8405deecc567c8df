-- The kinds of step and the fields that each uses, as the paper's table of steps has them.
-- Assumes nothing.
use Rattle.std.specs.Prelude.{ℕ, ◌-◌, ◌%◌, Bool, true, false, cond, ◌&&◌, List, [], ◌∷◌, leb, Result, Ok, Err}
use Rattle.kinds.specs.declared.Fields.{Fields}
use Rattle.kinds.specs.declared.Kind.{Kind}
use Rattle.kinds.specs.declared.Kind.TheVariants.{Begin, Write, Ask, Serve, Return, Commit, Prepare, Decide, GiveUp, Learn, Apply, Advance, Abandon}
use Rattle.kinds.specs.declared.UnknownKind.{UnknownKind}
use Rattle.tables.specs.Table.{at}

-- which of slot, node, cell and value are used
abbrev pub uses : Bool → Bool → Bool → Bool → Fields
uses s n c v = record { slot = s; node = n; cell = c; value = v }

abbrev pub nothing : Fields
nothing = uses false false false false

-- the paper's table: which fields each kind uses
abbrev pub uses_by : Kind → Fields
uses_by Begin = uses true true false true  -- T, n, value
uses_by Write = uses true false true true  -- T, cell, value
uses_by Ask = uses true true true false  -- T, n, cell
uses_by Serve = uses true false false false  -- T
uses_by Return = uses true false false false  -- T
uses_by Commit = uses true false false false  -- T
uses_by Prepare = uses true true false false  -- T, n
uses_by Decide = uses true false false false  -- T
uses_by GiveUp = uses true false false false  -- T
uses_by Learn = uses true true false false  -- T, n
uses_by Apply = uses false true false false  -- n
uses_by Advance = uses false true false false  -- n
uses_by Abandon = uses true false false false  -- T

-- the kind of the whole step: kind plus 128 is the step cut by power loss
abbrev pub whole_of : ℕ → ℕ
whole_of kind = kind % 128

-- kinds 1 to 13 are known, whole or cut
abbrev pub is_known : ℕ → Bool
is_known kind = leb 1 (whole_of kind) && leb (whole_of kind) 13

-- kinds 1 to 13 in their order
abbrev pub names : List Kind
names =
    Begin
    ∷ Write
    ∷ Ask
    ∷ Serve
    ∷ Return
    ∷ Commit
    ∷ Prepare
    ∷ Decide
    ∷ GiveUp
    ∷ Learn
    ∷ Apply
    ∷ Advance
    ∷ Abandon
    ∷ []

unfoldable pub named : ℕ → Kind
named kind = at names (whole_of kind - 1) Begin

-- what a kind byte stands for, whole or cut: an unknown one for none
unfoldable pub kind_of : ℕ → Result Kind UnknownKind
kind_of byte = cond (is_known byte) (Ok (named byte)) (Err (record { 0 = byte }))

-- what a kind byte uses: a cut kind the same as the whole one, an unknown one nothing
unfoldable pub uses_of : ℕ → Fields
uses_of kind = cond (is_known kind) (uses_by (named kind)) nothing
