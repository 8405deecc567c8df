-- The examples, computed from the definitions.
-- Assumes nothing.
use mathlib.Core.Path.{refl, ap}
use mathlib.Core.List.{[]}
use Rattle.tables.specs.Table.{at, put}
use Rattle.tables.specs.Loop.{any, every, turns, largest, last_at, lesser, least_at, each}
use Rattle.tables.specs.Tests.{refusal}
use Rattle.number.specs.Proposal.{up_to_top, next, proposal}
use Rattle.kinds.specs.Kinds.{uses_of, named}
use Rattle.chain.specs.Chain.{len_at, size, version_at, newest, latest, has_room, added}
use Rattle.group.specs.State.{unfinished, writer, involved}
use Rattle.fresh.specs.Fresh.{fresh_lens, fresh_versions, fresh}
use Rattle.whole.specs.Whole.{masks_sound, entry_sound, flight_sound, notes_sound, places_sound, sets_sound, slot_sound, spread, empty, voting_sound, committed_sound, transaction_sound, chain_sound, chains_sound, pending_sound, whole}
use Rattle.life.specs.Life.{begin_tests, cleared, write_tests, give_up_tests, abandon_tests}
use Rattle.ask.specs.Ask.{ask_tests, ask_turn}
use Rattle.read.specs.Read.{read_at, blocks, blocked, note_for, serve_turn, return_turn, return_reads}
use Rattle.vote.specs.Vote.{prepare_tests, bars, conflict, outdated, full, reason, vote}
use Rattle.decide.specs.Decide.{commit_turn, sent_to, commit_flight, refused_by, lacking, decide_tests, final, decide_turn}
use Rattle.learn.specs.Learn.{learn_tests, learn_turn, learn_flight}
use Rattle.settle.specs.Settle.{least, stored, advance_tests}
use Rattle.score.specs.Place.{desk_of, put_back}
use Rattle.desk.specs.Acts.{needs, does, rise, cuts, act}
use Rattle.score.specs.Steps.{step_whole, step_of}
use Rattle.runfile.proofs.Examples.{nothing_there, no_nodes, nine_nodes}
use Rattle.claims.specs.Runs.{answers, replies}
use Rattle.claims.specs.Example.{AllHold, Holds}
use Rattle.claims.specs.Tables.{faulted}
use Rattle.claims.specs.Starred.{starred}
use Rattle.claims.specs.Pinned.{crammed, pinned}

-- all that is computed with, opened under one name
definitions : Unit {0}
unfolding at put any every turns largest last_at lesser least_at each refusal up_to_top next proposal uses_of named len_at size version_at newest latest has_room added unfinished writer involved fresh_lens fresh_versions fresh begin_tests cleared write_tests give_up_tests abandon_tests ask_tests ask_turn read_at blocks blocked note_for serve_turn return_turn return_reads commit_turn sent_to commit_flight prepare_tests bars conflict outdated full reason vote refused_by lacking decide_tests final decide_turn learn_tests learn_turn learn_flight least stored advance_tests desk_of put_back needs does rise cuts act step_whole step_of masks_sound entry_sound flight_sound notes_sound places_sound sets_sound slot_sound spread empty voting_sound committed_sound transaction_sound chain_sound chains_sound pending_sound whole answers replies
definitions = tt

-- one by one, since what one declaration may compute is bounded
starred_hold : AllHold starred
unfolding definitions
starred_hold = (refl, (refl, (refl, (refl, (refl, (refl, (refl, (refl, (refl, (refl, (ap faulted nothing_there, (ap faulted (no_nodes []), (ap faulted (nine_nodes []), tt)))))))))))))

full_chain : Holds crammed
unfolding definitions
full_chain = refl

pinned_hold : AllHold pinned
unfolding definitions
pinned_hold = (refl, (refl, (refl, (refl, (refl, (refl, (full_chain, (refl, (refl, (refl, (refl, (refl, ((refl, refl), ((refl, refl), tt))))))))))))))

pub computed : AllHold starred × AllHold pinned
computed = (starred_hold, pinned_hold)
