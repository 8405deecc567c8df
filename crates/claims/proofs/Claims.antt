-- What is claimed, one statement after the other. Each is proved where its words are defined; here it stands whole, so that it can neither
-- go nor grow weaker unnoticed.
-- Assumes nothing.
use mathlib.Core.Path.{◌≡◌, refl}
use mathlib.Core.Logic.{◌≢◌}
use mathlib.Core.List.{List, [], ◌++◌}
use mathlib.Core.Bool.{true}
use Prim.Native.Nat.{ℕ, ◌+◌, ◌/◌, ◌%◌, ◌^◌, ◌≤◌, ◌<◌}
use lib.ListN.{length, get_or, take, drop}
use Rattle.std.specs.Prelude.{Option, Some, Ok}
use Rattle.tables.specs.Table.{at}
use Rattle.tables.specs.Pair.{word}
use Rattle.number.specs.Proposal.{proposal, IsProposal}
use Rattle.number.proofs.Laws.{proposal_is, proposal_only}
use Rattle.kinds.specs.declared.Step.{Step}
use Rattle.kinds.specs.declared.Kind.{Kind}
use Rattle.group.specs.declared.Group.{Group}
use Rattle.group.specs.declared.Tables.{Tables}
use Rattle.group.specs.declared.Answer.{Answer}
use Rattle.group.specs.declared.Answer.TheVariants.{Cut, Refused}
use Rattle.group.specs.State.{State}
use Rattle.score.specs.Parts.{reached}
use Rattle.score.proofs.WholeLaws.{step_only}
use Rattle.desk.specs.Desk.{Desk}
use Rattle.desk.specs.Acts.{does, cuts}
use Rattle.score.specs.Steps.{step_whole, step_of}
use Rattle.little.specs.Little.{digits, fits, number_at, stored}
use Rattle.little.proofs.Laws.{Bytes, number_stored, stored_before, stored_past}
use Rattle.runfile.specs.declared.Fault.{Fault}
use Rattle.runfile.specs.File.{File, got, fault, step_bytes, bytes_of, read_file}
use Rattle.runfile.specs.Head.{head_of}
use Rattle.runfile.proofs.FileItems.{StepFits}
use Rattle.runfile.proofs.BothWays.{Sound, read_written, written_read, one_run, one_file, Outcome, outcome, not_both_ways, one_fault}
use Rattle.runwrite.specs.Writing.{word_of, step_of as step_in, file_of}
use Rattle.runwrite.proofs.Back.{file_back}
use Rattle.runwrite.proofs.Words.{word_step, number_bytes}
use Rattle.runfile.proofs.Longer.{longer_input}
use Rattle.text.specs.Text.{decimal, placed}
use Rattle.text.proofs.Digits.{decimal_first, decimal_only}
use Rattle.text.proofs.Placed.{placed_there, placed_before, placed_beyond}
use Rattle.replay.specs.Replay.{text_of}
use Rattle.replay.proofs.Longest.{longest_text}
use Rattle.cilumbara.specs.Library.{rewrite_of}
use Rattle.cilumbara.proofs.Laws.{rewrite_same}
use Rattle.serial.specs.Serial.{Sound as SoundGroup, Steps32, start, run_of, Serial}
use Rattle.serial.proofs.Theorem.{serial}
use Rattle.serial.proofs.CutLaw.{with_counter, cut_law}
use Rattle.serial.proofs.Never as Never
use Rattle.claims.specs.Example.{AllHold}
use Rattle.claims.specs.Starred.{starred}
use Rattle.claims.specs.Pinned.{pinned}
use Rattle.claims.specs.Between.{begun, steps, summary_of, summary, Explained}
use Rattle.claims.specs.Tables.{Tabled}
use Rattle.claims.proofs.Computed.{computed}
use Rattle.claims.proofs.Tabled.{tabled}
use Rattle.claims.proofs.Between.{summed, explained}
use Rattle.claims.proofs.Decided.{same}

-- ---- demands 1 and 2

-- The contract of the step is its whole outcome: two that meet it are equal, the answer, the state and every lent table.
pub step_decided :
    (s : State) (x : Step) (a a' : Answer) (g g' : Group) (t t' : Tables)
    → reached a g t ≡ step_of s x → reached a' g' t' ≡ step_of s x → (a ≡ a') × (g ≡ g') × (t ≡ t')
step_decided = step_only

-- The proposal rule, for every node number and every counter: what is proposed is what the paper says ..
pub proposal_rule : (n c : ℕ) → IsProposal n c (proposal n c)
proposal_rule = proposal_is

-- .. and nothing else is.
pub proposal_rule_only : (n c : ℕ) (r : Option ℕ) → IsProposal n c r → r ≡ proposal n c
proposal_rule_only = proposal_only

-- A cut step writes the counter as the whole step would, and changes nothing else.
pub cut_step : (q : Desk) (x : Step) (k : Kind) → ((cuts q x k).answer ≡ Cut) × ((cuts q x k).desk ≡ with_counter q (does q x k).desk.counters)
unfolding cuts
cut_step q x k = (refl, cut_law q x k)

-- The paper's starred examples, as one list, and those that pin what the serial statement alone would not notice.
pub starred_examples : AllHold starred
starred_examples = computed.0

pub pinned_examples : AllHold pinned
pinned_examples = computed.1

-- The paper's tables and limits, entry by entry: the fields that each kind uses, each fault, the code of each answer.
pub tables : Tabled
tables = tabled

-- Run files. Reading what was written gives the same run back ..
pub read_back : (f : File) → Sound f → read_file (bytes_of f) ≡ got f []
read_back = read_written

-- .. and writing what was read the same bytes: a file that is read stands for a sound run, and is the file of that run.
pub written_back : (b : List ℕ) (f : File) (r : List ℕ) → Bytes b → read_file b ≡ got f r → (b ≡ bytes_of f) × Sound f × (r ≡ [])
written_back = written_read

-- One run, one file: two runs with one file are equal, and two files for one run.
pub one_run_a_file : (f g : File) → Sound f → Sound g → bytes_of f ≡ bytes_of g → f ≡ g
one_run_a_file = one_run

pub one_file_a_run : (b c : List ℕ) (f : File) → Bytes b → Bytes c → read_file b ≡ got f [] → read_file c ≡ got f [] → b ≡ c
one_file_a_run = one_file

-- Any bytes are the file of a sound run, or have one fault of 32 to 36.
pub sound_or_faulty : (b : List ℕ) → Bytes b → Outcome b
sound_or_faulty = outcome

-- Never both, and never two faults.
pub never_both : (f : File) (c : Fault) → Sound f → read_file (bytes_of f) ≡ fault c → ⊥
never_both = not_both_ways

pub one_fault_only : (b : List ℕ) (c d : Fault) → read_file b ≡ fault c → read_file b ≡ fault d → c ≡ d
one_fault_only = one_fault

-- Every run can be handed to the writer, as its head and its steps.
pub every_run_written : (f : File) → file_of (head_of f) f.steps ≡ f
every_run_written = file_back

-- A step is written as one number, whose eight bytes are the step's, the least first; and a number of eight bytes is one step's.
pub step_as_number : (x : Step) → StepFits x → step_bytes x ≡ digits 4 (word_of x % word) ++ digits 4 (word_of x / word)
step_as_number = number_bytes

pub one_number_a_step : (w : ℕ) → word_of (step_in w) ≡ w
one_number_a_step = word_step

-- What storing a number of k bytes means: it is read back from there, and every byte before it and past it is as it was.
pub stored_means :
    (out : List ℕ) (i k x : ℕ)
    → (fits (length out) i k ≡ true → x < 256 ^ k → number_at (stored out i k x) i k ≡ Some x)
    × ((n : ℕ) → n ≤ i → take n (stored out i k x) ≡ take n out)
    × ((n : ℕ) → i + k ≤ n → drop n (stored out i k x) ≡ drop n out)
stored_means out i k x = (number_stored out i k x, stored_before out i k x, stored_past out i k x)

-- The library's function that writes a file anew refuses no sound file that fits, and gives the same bytes.
pub rewritten_same :
    (b : List ℕ) (f : File) (r : List ℕ) (out : List ℕ) → Bytes b → read_file b ≡ got f r → length b ≤ length out
    → rewrite_of (read_file b) out ≡ record { answer = Ok tt; out = b ++ drop (length b) out }
rewritten_same = rewrite_same

-- An input longer than the longest file is judged by its first 32,965 bytes, which is all that the run program reads.
pub longer_judged : (b : List ℕ) → 32965 ≤ length b → read_file (take 32965 b) ≡ read_file b
longer_judged = longer_input

-- Replay: the file's bytes alone decide what is printed, byte for byte, and how long it is ..
pub replay_decided :
    (file out : List ℕ) (r r' : ℕ) (out₁ out₂ : List ℕ)
    → (r ≡ length (text_of (read_file file))) × (out₁ ≡ placed out 0 (text_of (read_file file)))
    → (r' ≡ length (text_of (read_file file))) × (out₂ ≡ placed out 0 (text_of (read_file file)))
    → (r ≡ r') × (out₁ ≡ out₂)
replay_decided file out r r' out₁ out₂ p q = (same r r' _ p.0 q.0, same out₁ out₂ _ p.1 q.1)

-- .. and an output of 122,894 bytes is always enough.
pub always_fits : (file : List ℕ) → Bytes file → length (text_of (read_file file)) ≤ 122894
always_fits = longest_text

-- Numbers are printed without leading zeros, and no two alike.
pub no_leading_zero : (n : ℕ) → n < 10 ^ 10 → get_or (decimal n) 0 0 ≡ 48 → n ≡ 0
no_leading_zero = decimal_first

pub numbers_told : (m n : ℕ) → m < 10 ^ 10 → n < 10 ^ 10 → decimal m ≡ decimal n → m ≡ n
numbers_told = decimal_only

-- What placing bytes means: they stand there where they fit, and every byte before and beyond is as it was.
pub placed_means :
    (out : List ℕ) (i : ℕ) (bytes : List ℕ)
    → (i + length bytes ≤ length out → take (length bytes) (drop i (placed out i bytes)) ≡ bytes)
    × ((n : ℕ) → n ≤ i → take n (placed out i bytes) ≡ take n out)
    × ((n : ℕ) → i + length bytes ≤ n → drop n (placed out i bytes) ≡ drop n out)
placed_means out i bytes = (placed_there out i bytes, placed_before out i bytes, placed_beyond out i bytes)

-- ---- demand 3

-- From a fresh run of any sound group, after any steps, refused and cut ones among them: distinct numbers, and every value ever handed out
-- explained by running the committed writers one by one on one copy.
pub serial_statement : (nodes cells : ℕ) (counters masks values : List ℕ) → SoundGroup nodes cells counters masks values → (xs : List Step) → Steps32 xs
    → Serial (λ c. at values c 0) (run_of (start nodes cells counters masks values) xs)
serial_statement = serial

-- Never 15: no step of such a run answers it, and the step that doesn't test for a whole state is the step.
pub never_15 : (nodes cells : ℕ) (counters masks values : List ℕ) → SoundGroup nodes cells counters masks values → (xs : List Step) → Steps32 xs → (x : Step)
    → (step_of (run_of (start nodes cells counters masks values) xs).state x).answer ≢ Refused 15
never_15 = Never.never_15

pub inner_step : (nodes cells : ℕ) (counters masks values : List ℕ) → SoundGroup nodes cells counters masks values → (xs : List Step) → Steps32 xs → (x : Step)
    → step_of (run_of (start nodes cells counters masks values) xs).state x ≡ step_whole (run_of (start nodes cells counters masks values) xs).state x
inner_step = Never.inner_step

-- The statement is not empty: what it says, part by part, of a run in which a reader reads between two writers, and that the run comes to
-- this.
pub said_of_a_run : (summary_of (run_of begun steps) ≡ summary) × Explained (run_of begun steps)
said_of_a_run = (summed, explained)
