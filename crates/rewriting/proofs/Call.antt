-- The whole call: a trace whose steps are refused, and one whose steps were listed.
use Prim.Native.Nat.{ℕ, ◌≤◌}
use mathlib.Core.Path.{◌≡◌, refl, ap, sym, ◌∙◌}
use mathlib.Core.Bool.{Bool, false≢true}
use mathlib.Core.List.{List}
use lib.ListN.{length, take}
use Rattle.std.specs.Prelude.{Ok, Err}
use Rattle.rules.specs.Refusals.{cause_no}
use Rattle.rules.specs.declared.Refusal.{Refusal}
use Rattle.rules.specs.Records.{serial_at, is_second}
use Rattle.rules.specs.Reading.{Reading, refused, read, reading}
use Rattle.rules.specs.History.{History}
use Rattle.demand1.proofs.Readings.{has_record, has_read}
use Rattle.writing.specs.Filling.{Filled, refusing, answering, said, Fill, fill_of, into}
use Rattle.writing.specs.Writing.{written}
use Rattle.writing.specs.Listing.{steps_read, stepped}
use Rattle.writing.proofs.Within.{stepped_within}
use Rattle.writing.proofs.Rewriting.{again_refused, again-listed}
use Rattle.rewriting.specs.Rewriting.{Rewrote}

-- ── what an answer with a length says ──

-- it is no refusal
no_refusal : {n m p : ℕ} {b o : List ℕ} → fill_of (answering n) b ≡ fill_of (refusing m p) o → ⊥
no_refusal e = false≢true (ap (λ (x : Fill). x.answer.is_refused) e)

-- the trace was read
pub data IsRead (x : Reading) : Type 0 where
  is_read : (h : History) (notes : ℕ) → x ≡ read h notes → IsRead x

was_read : (second : Bool) (x : Reading) (o : List ℕ) {n : ℕ} {b : List ℕ} → fill_of (answering n) b ≡ into (steps_read second x) o → IsRead x
unfolding steps_read into
was_read second (refused m p) o e = absurd (no_refusal e)
was_read second (read h notes) o e = is_read h notes refl

-- so it has a record
read_record : (s : List ℕ) → IsRead (reading s) → 8 ≤ length s
read_record s (is_read h notes e) = has_record (has_read e)

-- ── steps f are written with the serial k, the first of the trace s ──

pub first-serial : {x : Fill} (f s out : List ℕ) {k : ℕ} → k ≡ serial_at s 0 → x ≡ written f k out → x ≡ written f (serial_at s 0) out
first-serial f s out e d = rw (← e) d

-- ── the answer r to turning the trace s into steps, which made x₂ of the buffer x ──

module _ (r : Filled) (s x x₂ : List ℕ) (e : fill_of (said r) x₂ ≡ stepped s x) where
  steps_are : x₂ ≡ (stepped s x).buffer
  steps_are = ap (λ (y : Fill). y.buffer) e

  pub handed_on : {d : Refusal} → r ≡ Err d → (out : List ℕ) → Rewrote (Err d) s x x₂ out out
  unfolding said
  handed_on {d} q out =
      let refuses : (stepped s x).answer ≡ refusing (cause_no d.cause) d.place = ap (λ (y : Fill). y.answer) (sym e) ∙ ap said q in
      record { is = sym (again_refused s x out refuses); steps = steps_are }

  module _ {n : ℕ} (q : r ≡ Ok n) where
    listed : fill_of (answering n) x₂ ≡ stepped s x
    unfolding said
    listed = rw q at e

    pub serial_there : 8 ≤ length s
    unfolding stepped
    serial_there = read_record s (was_read (is_second s) (reading s) x listed)

    pub front_there : n ≤ length x₂
    front_there = stepped_within (answering n) x₂ s x listed

    pub written-again : {a : Filled} {out out₂ : List ℕ} → fill_of (said a) out₂ ≡ written (take n x₂) (serial_at s 0) out → Rewrote a s x x₂ out out₂
    written-again {out} d = record { is = d ∙ sym (again-listed s x out (sym listed)); steps = steps_are }
