-- A text at the front of a buffer.
use Prim.Native.Nat.{ℕ, ◌^◌, ◌<◌, ◌≤◌}
use mathlib.Core.Path.{◌≡◌, refl, ap, sym, ◌∙◌}
use mathlib.Core.List.{List, []}
use native.Mathlib.Omega.{arith}
use lib.ListN.{length, take, take-append-drop}
use lib.Seq.{take_all, length-take-le}
use Rattle.std.specs.Prelude.{Result, Ok, Err}
use Rattle.rules.specs.Numbers.{over}
use Rattle.rules.specs.Refusals.{cause_no}
use Rattle.rules.specs.declared.Refusal.{Refusal}
use Rattle.rules.proofs.Numbers.{over-front}
use Rattle.show.specs.Laid.{Put}
use Rattle.show.proofs.Laws.{laid-over}
use Rattle.text.specs.Lines.{refused_line, notes_line}
use Rattle.text.proofs.Lines.{refused_length, notes_length}
use Rattle.writing.specs.Filling.{Filled, said}
use Rattle.telling.specs.Parts.{filled_text, read_text, Fronts}

-- the part up to its end is just the text
module _ {t o b : List ℕ} {n : ℕ} (x : Fronts t o b n) where
  pub front-is : take n b ≡ t
  front-is = rw (x.end, x.is) (over-front t o)

  pub front_long : n ≡ length (take n b)
  front_long = x.end ∙ sym (ap length front-is)

-- by a name that an attribute can have
pub ruleset at_front = (front-is)

-- ── what was put, and what stood there ──

-- a line; nothing; the front itself
line_fronts : {o b l : List ℕ} {n : ℕ} → Put o 0 b n l → length l ≤ 64 → 64 ≤ length o → Fronts l o b n
line_fronts {o} {b} {l} {n} x s room =
    let e : n ≡ length l = omega (arith, x.end) in
    record { end = e; fits = omega arith; is = x.is ∙ laid-over o l ∙ ap (λ (t : List ℕ). over t o) (take_all (length o) l (omega arith)) }

none_fronts : (o : List ℕ) → Fronts [] o o 0
unfolding over
none_fronts o = record { end = refl; fits = omega arith; is = refl }

own_fronts : (o : List ℕ) (n : ℕ) → n ≤ length o → Fronts (take n o) o o n
unfolding over
own_fronts o n l =
    let e : length (take n o) ≡ n = length-take-le n o l in
    record { end = sym e; fits = l; is = rw e (sym (take-append-drop n o)) }

-- ── the text of an answer a ──

module _ {a : Filled} {o : List ℕ} where
  pub refused_fronts : {d : Refusal} {n m : ℕ} {b : List ℕ} → a ≡ Err d → n ≡ cause_no d.cause → n < 2 ^ 64 → d.place < 2 ^ 64 → 64 ≤ length o
      → Put o 0 b m (refused_line n d.place) → Fronts (filled_text a o) o b m
  unfolding filled_text
  refused_fronts {d} {n} e q s t room x = rw (e, ← q) (line_fronts x (refused_length n d.place s t) room)

  pub length_fronts : {n : ℕ} → a ≡ Ok n → (said a).length ≤ length o → Fronts (filled_text a o) o o n
  unfolding filled_text said
  length_fronts {n} e l = rw e (own_fronts o n (rw e at l))

-- ── of a reading q ──

module _ {q : Result ℕ Refusal} {o : List ℕ} where
  pub bad_fronts : {d : Refusal} → q ≡ Err d → Fronts (read_text q) o o 0
  unfolding read_text
  bad_fronts e = rw e (none_fronts o)

  pub good_fronts : {n m : ℕ} {b : List ℕ} → q ≡ Ok n → n < 2 ^ 64 → 64 ≤ length o → Put o 0 b m (notes_line n) → Fronts (read_text q) o b m
  unfolding read_text
  good_fronts {n} e s room x = rw e (line_fronts x (notes_length n (omega arith)) room)
