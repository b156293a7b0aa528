-- One number is of one cause, so that an answer in the document's numbers says which answer it was.
use Rattle.std.proofs.Common.{◌≡◌, ℕ, sym, refl, ap, ◌∙◌, arith}
use Rattle.std.specs.Prelude.{Result, Ok, Err, ◌<◌, ◌≤◌, List, [], ◌∷◌, get_or}
use Rattle.rules.specs.Refusals.{cause_no, refusal_at, Declined, declined, numbered, placed_at, told}
use Rattle.rules.specs.declared.Cause.{Cause}
use Rattle.rules.specs.declared.Cause.TheVariants.{NoLevel, TooLong, TooFew, Length, Serial, Kind, Misplaced, Unlawful, Excess, Repeated, BytesBehind, FindingsRoom, PairsRoom, OrderRoom, OutputRoom, Mixed, Descending, ListsMoved}
use Rattle.rules.specs.declared.Refusal.{Refusal}

-- the causes by their numbers
unfoldable pub cause_of : ℕ → Cause
cause_of n =
    get_or
    (NoLevel ∷ NoLevel ∷ TooLong ∷ TooFew ∷ Length ∷ Serial ∷ Kind ∷ Misplaced ∷ Unlawful ∷ Excess ∷ Repeated ∷ BytesBehind ∷ FindingsRoom
    ∷ PairsRoom ∷ OrderRoom ∷ OrderRoom ∷ OutputRoom ∷ Mixed ∷ Descending ∷ Descending ∷ ListsMoved ∷ [])
    n NoLevel

pub cause_of_no : (c : Cause) → cause_of (cause_no c) ≡ c
unfolding cause_of
cause_of_no NoLevel = refl
cause_of_no TooLong = refl
cause_of_no TooFew = refl
cause_of_no Length = refl
cause_of_no Serial = refl
cause_of_no Kind = refl
cause_of_no Misplaced = refl
cause_of_no Unlawful = refl
cause_of_no Excess = refl
cause_of_no Repeated = refl
cause_of_no BytesBehind = refl
cause_of_no FindingsRoom = refl
cause_of_no PairsRoom = refl
cause_of_no OrderRoom = refl
cause_of_no OutputRoom = refl
cause_of_no Mixed = refl
cause_of_no Descending = refl
cause_of_no ListsMoved = refl

pub cause_one : {c d : Cause} → cause_no c ≡ cause_no d → c ≡ d
cause_one {c} {d} e = sym (cause_of_no c) ∙ ap cause_of e ∙ cause_of_no d

pub refusal_one : {r q : Refusal} → cause_no r.cause ≡ cause_no q.cause → r.place ≡ q.place → r ≡ q
refusal_one e p = rw (cause_one e, p)

-- no number is 0
pub cause-some : (c : Cause) → 0 < cause_no c
cause-some NoLevel = omega arith
cause-some TooLong = omega arith
cause-some TooFew = omega arith
cause-some Length = omega arith
cause-some Serial = omega arith
cause-some Kind = omega arith
cause-some Misplaced = omega arith
cause-some Unlawful = omega arith
cause-some Excess = omega arith
cause-some Repeated = omega arith
cause-some BytesBehind = omega arith
cause-some FindingsRoom = omega arith
cause-some PairsRoom = omega arith
cause-some OrderRoom = omega arith
cause-some OutputRoom = omega arith
cause-some Mixed = omega arith
cause-some Descending = omega arith
cause-some ListsMoved = omega arith

-- and none is greater than 20
pub cause_few : (c : Cause) → cause_no c ≤ 20
cause_few NoLevel = omega arith
cause_few TooLong = omega arith
cause_few TooFew = omega arith
cause_few Length = omega arith
cause_few Serial = omega arith
cause_few Kind = omega arith
cause_few Misplaced = omega arith
cause_few Unlawful = omega arith
cause_few Excess = omega arith
cause_few Repeated = omega arith
cause_few BytesBehind = omega arith
cause_few FindingsRoom = omega arith
cause_few PairsRoom = omega arith
cause_few OrderRoom = omega arith
cause_few OutputRoom = omega arith
cause_few Mixed = omega arith
cause_few Descending = omega arith
cause_few ListsMoved = omega arith

-- so an answer in numbers says which it was
pub numbered_one : {T : Type 0} (r q : Result T Cause) → numbered r ≡ numbered q → r ≡ q
numbered_one (Ok x) (Ok y) e = cc
numbered_one (Ok x) (Err d) e = let z : ◌≡◌ {A = ℕ} 0 1 = cc in absurd (omega arith)
numbered_one (Err c) (Ok y) e = let z : ◌≡◌ {A = ℕ} 0 1 = cc in absurd (omega arith)
numbered_one (Err c) (Err d) e = let n : cause_no c ≡ cause_no d = cc in ap Err (cause_one n)

number_in : {T : Type 0} → Result T Declined → ℕ
number_in (Ok x) = 0
number_in (Err d) = d.no

place_in : {T : Type 0} → Result T Declined → ℕ
place_in (Ok x) = 0
place_in (Err d) = d.place

pub declined_one : {T : Type 0} {n p m q : ℕ} → ◌≡◌ {A = Result T Declined} (Err (declined n p)) (Err (declined m q)) → (n ≡ m) × (p ≡ q)
unfolding number_in place_in
declined_one e = (ap number_in e, ap place_in e)

pub told_one : {T : Type 0} (r q : Result T Refusal) → told r ≡ told q → r ≡ q
unfolding number_in place_in
told_one (Ok x) (Ok y) e = cc
told_one (Ok x) (Err d) e = let z : ◌≡◌ {A = ℕ} 0 1 = cc in absurd (omega arith)
told_one (Err c) (Ok y) e = let z : ◌≡◌ {A = ℕ} 0 1 = cc in absurd (omega arith)
told_one (Err c) (Err d) e = ap Err (refusal_one (ap number_in e) (ap place_in e))

-- ── what comes of a part, as what comes of the whole ──

module _ {T : Type 0} (p : ℕ) where
  pub placed_ok : (r : Result T Cause) {x : T} → placed_at p r ≡ Ok x → r ≡ Ok x
  placed_ok (Ok y) e = cc
  placed_ok (Err c) e = let z : ◌≡◌ {A = ℕ} 0 1 = cc in absurd (omega arith)

  pub placed_err : (r : Result T Cause) {d : Refusal} → placed_at p r ≡ Err d → (c : Cause) × (r ≡ Err c) × (d ≡ refusal_at c p)
  placed_err (Ok y) e = let z : ◌≡◌ {A = ℕ} 0 1 = cc in absurd (omega arith)
  placed_err (Err c) {d} e = let q : refusal_at c p ≡ d = cc in (c, refl, sym q)
