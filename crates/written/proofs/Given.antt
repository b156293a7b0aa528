-- A serial and steps in one are written as promised, and the promise leaves one outcome.
use Prim.Native.Nat.{ℕ, ◌+◌, ◌≤◌}
use mathlib.Core.Path.{◌≡◌, ◌∙◌}
use mathlib.Core.List.{List}
use mathlib.Core.Logic.{⊎_elim, ◌↔◌}
use lib.ListN.{length}
use lib.Seq.{get_or-drop}
use Rattle.base.proofs.Tests.{split}
use Rattle.writing.specs.Filling.{Said, refusing, said, fill_of, Filled}
use Rattle.writing.specs.Writing.{written, written_given}
use Rattle.writing.proofs.Rewriting.{given_none, given_steps_lem}
use Rattle.written.specs.Declined.{WriteDeclines}
use Rattle.written.specs.Fills.{FillsBy}
use Rattle.written.specs.Writes.{AllBytes, TraceOf}
use Rattle.written.specs.Given.{given_serial, given_steps, GivenDeclines, no_serial, steps_bad, WritesGiven}
use Rattle.written.proofs.Slim.{le_below}
use Rattle.written.proofs.Fills.{CameOut, declining, putting, declines_iff, fills_by, fills_one}
use Rattle.written.proofs.Declined.{declined_is}
use Rattle.written.proofs.Writes.{out, trace_one}

module _ (g : List ℕ) (b : AllBytes g) (o : List ℕ) where
  given_declined : (m p : ℕ) → GivenDeclines g (length o) m p → written_given g o ≡ fill_of (refusing m p) o
  given_declined m p (no_serial l) = given_none g o l
  given_declined m p (steps_bad l d) = given_steps_lem g o l ∙ declined_is (given_steps g) (given_serial g) o m p d

  -- the steps are bytes
  steps_given : AllBytes (given_steps g)
  steps_given i = rw (get_or-drop 4 g i 0) (b (4 + i))

  abbrev Given : Type 0
  Given = CameOut (GivenDeclines g (length o)) (TraceOf (given_steps g) (given_serial g)) o (written_given g o) given_declined

  came_given : Given
  came_given =
      ⊎_elim (λ l. declining 3 0 (no_serial l)) (λ l. by l (out (given_steps g) steps_given (given_serial g) (le_below 4 g 0 b) o)) (split (length g) 4)
    where
      by : 4 ≤ length g
          → CameOut (WriteDeclines (given_steps g) (length o)) (TraceOf (given_steps g) (given_serial g)) o (written (given_steps g) (given_serial g) o) (declined_is (given_steps g) (given_serial g) o)
          → Given
      by l (declining m p d) = declining m p (steps_bad l d)
      by l (putting t w i) = putting t w (given_steps_lem g o l ∙ i)

  pub given_declines_iff : (m p : ℕ) → ((written_given g o).answer ≡ refusing m p) ↔ GivenDeclines g (length o) m p
  given_declines_iff = declines_iff (GivenDeclines g (length o)) (TraceOf (given_steps g) (given_serial g)) o (written_given g o) given_declined came_given

  pub writes_given_by : {R : Type 0} (says : R → Said) (r : R) (B : List ℕ) → fill_of (says r) B ≡ written_given g o
      → FillsBy says (GivenDeclines g (length o)) (TraceOf (given_steps g) (given_serial g)) o r B
  writes_given_by = fills_by (GivenDeclines g (length o)) (TraceOf (given_steps g) (given_serial g)) o (written_given g o) given_declined came_given

  pub writes_given : (r : Filled) (B : List ℕ) → fill_of (said r) B ≡ written_given g o → WritesGiven g o r B
  writes_given = writes_given_by said

pub given_one : {g o : List ℕ} {r q : Filled} {B C : List ℕ} → WritesGiven g o r B → WritesGiven g o q C → (said r ≡ said q) × (B ≡ C)
given_one u v = fills_one trace_one u v
