-- Two outcomes that a contract admits are the same.
use Prim.Native.Nat.{ℕ, ◌+◌, ◌-◌, ◌<◌}
use mathlib.Core.Path.{◌≡◌, ap, sym, ◌∙◌}
use mathlib.Core.Bool.{Bool}
use mathlib.Core.Logic.{⊎_elim}
use mathlib.Core.List.{List}
use native.Mathlib.Omega.{arith}
use lib.ListN.{get_or}
use lib.Seq.{ext_get_or}
use Rattle.base.proofs.Tests.{ifso, split}
use Rattle.rules.specs.History.{History}
use Rattle.rules.specs.declared.Event.{Event}
use Rattle.std.specs.Prelude.{Result}
use Rattle.rules.specs.declared.Cause.{Cause}
use Rattle.steps.specs.declared.Next.{Next}
use Rattle.steps.proofs.One.{took_one}
use Rattle.sessions.specs.Open.{Kept, TookOf}

-- a history has one list of bytes
pub kept_one : {a b : List ℕ} {h : History} → Kept a h → Kept b h → a ≡ b
kept_one {a} {b} x y =
    ext_get_or 0 a b (x.room ∙ sym y.room)
    (λ i l.
    ⊎_elim (λ m. x.heads i m ∙ sym (y.heads i m))
    (λ m.
    let e : i ≡ 128 + (i - 128) = omega arith in
    let n : i - 128 < 128 = omega (arith, x.room) in
    ap (λ (k : ℕ). get_or a k 0) e ∙ x.links (i - 128) n ∙ sym (ap (λ (k : ℕ). get_or b k 0) e ∙ y.links (i - 128) n))
    (split i 128))

-- of `take`: the answer, the table's words, and the bytes
pub took_of_one : {r q : Result Next Cause} {g k o p h b : List ℕ} {second : Bool} {n : ℕ} {e : Event} → TookOf r g o h b second n e → TookOf q k p h b second n e
    → (r ≡ q) × (g ≡ k) × (o ≡ p)
took_of_one {second = second} x y =
    let s = took_one x.took y.took in
    (s.0, s.1, ifso second (λ t. kept_one (x.beside.kept t) (rw (← s.1) at (y.beside.kept t))) (λ t. x.alone t ∙ sym (y.alone t)))
