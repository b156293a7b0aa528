use Prim.Native.Nat.{ℕ}
use mathlib.Core.Bool.{false}
use mathlib.Core.Path.{◌≡◌, refl}
use Rattle.rules.specs.declared.Event.{Event}
use Rattle.rules.specs.declared.Event.TheVariants.{Open, Read, Write, Close, End, Note, Other}
use Rattle.rules.specs.Reading.{is_end}
use Rattle.sessions.proofs.is_end.Goals as goal

any_other : (e : Event) → ((n : ℕ) → e ≡ End n → ⊥) → false ≡ is_end e
unfolding is_end
any_other (Open s) d = refl
any_other (Read k v) d = refl
any_other (Write k v) d = refl
any_other (Close x) d = refl
any_other (End n) d = absurd (d _ refl)
any_other Note d = refl
any_other Other d = refl

pub returns-in-End : goal.returns-in-End
unfolding is_end
returns-in-End c = rw c.in-End.is

pub returns-in_default : goal.returns-in_default
returns-in_default c = any_other _ c.in_default.not-End
