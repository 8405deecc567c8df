-- What stands in a space in which a text was placed.
-- Assumes nothing.
use mathlib.Core.Path.{◌≡◌, ap, ◌∙◌}
use mathlib.Core.List.{List}
use Prim.Native.Nat.{ℕ, ◌≤◌, ◌<◌}
use native.Mathlib.Omega.{arith}
use lib.ListN.{length, take, get_or}
use mir.Syntax.{w8}
use mir.Val.{Fits}
use borrow.Author.Tests.{le-leb, lt-leb}
use Rattle.std.specs.Prelude.{Option}
use Rattle.std.specs.Io.KnownBytes.{Appends}
use Rattle.std.proofs.KnownBytes.{Appends-nil}
use Rattle.tables.specs.Table.{at}
use Rattle.little.proofs.Laws.{Bytes}
use Rattle.text.specs.Text.{placed}
use Rattle.text.proofs.Placed.{placed_there, placed_size}
use Rattle.runfile.specs.File.{read_file}
use Rattle.replay.specs.Replay.{text_of}
use Rattle.replay.proofs.Longest.{longest_text}
use Rattle.show.specs.Show.{shown}

-- no file of bytes has a longer text
pub no_longer : (b : List ℕ) → ((i : ℕ) → Fits w8 (get_or b i 0)) → length (text_of (read_file b)) ≤ 122894
unfolding at
no_longer b fits = longest_text b bytes
  where
    bytes : Bytes b
    bytes i l = omega (arith, fits i)

module _ (space : List ℕ) (text : List ℕ) (size : ℕ) (new : List ℕ) (e : size ≡ length text) (q : new ≡ placed space 0 text) where
  size_stays : length new ≡ length space
  size_stays = ap length q ∙ placed_size space 0 text

  -- where it fits, the text stands at the front
  pub shown_all : size ≤ length new → take size new ≡ shown (length space) text
  unfolding shown
  shown_all l =
      let fits : length text ≤ length space = omega (arith, size_stays) in
      rw (e, q, le-leb _ _ fits) (placed_there space 0 text (omega arith))

  -- where it does not, nothing is printed
  pub shown_none : (known : Option (List ℕ)) → length new < size → Appends known known (shown (length space) text)
  unfolding shown
  shown_none known l =
      let beyond : length space < length text = omega (arith, size_stays) in
      rw (lt-leb _ _ beyond) (Appends-nil known)
