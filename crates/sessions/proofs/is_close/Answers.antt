use Prim.Native.Nat.{ℕ}
use mathlib.Core.Bool.{false}
use mathlib.Core.Path.{◌≡◌, refl}
use Rattle.rules.specs.declared.Event.{Event}
use Rattle.rules.specs.declared.Event.TheVariants.{Open, Read, Write, Close, End, Note, Other}
use Rattle.sessions.specs.Open.{is_close}
use Rattle.sessions.proofs.is_close.Goals as goal

any_other : (e : Event) → ((n : ℕ) → e ≡ Close n → ⊥) → false ≡ is_close e
unfolding is_close
any_other (Open s) d = refl
any_other (Read k v) d = refl
any_other (Write k v) d = refl
any_other (Close x) d = absurd (d _ refl)
any_other (End n) d = refl
any_other Note d = refl
any_other Other d = refl

pub returns-in-Close : goal.returns-in-Close
unfolding is_close
returns-in-Close c = rw c.in-Close.is

pub returns-in_default : goal.returns-in_default
returns-in_default c = any_other _ c.in_default.not-Close
