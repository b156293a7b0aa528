-- Two outcomes that a contract admits are the same. A table of vectors has 16,384 bytes, and a machine word is below 2^64.
use Prim.Native.Nat.{ℕ, ◌+◌, ◌*◌, ◌/◌, ◌%◌, ◌<◌}
use mathlib.Core.Path.{◌≡◌, sym, ap, ◌∙◌}
use mathlib.Core.Bool.{Bool}
use mathlib.Core.List.{List}
use native.Mathlib.Omega.{arith}
use lib.ListN.{length, get_or}
use lib.Seq.{ext_get_or}
use Rattle.base.proofs.Tests.{ifso}
use Rattle.bits.proofs.One.{row_one}
use Rattle.order.specs.declared.Words.{Words}
use Rattle.order.proofs.One.{MachineSet}
use Rattle.vectors.specs.Vectors.{slot, VectorsMade, Joined}

-- the cells are all bytes
pub cells_one : {u v : List ℕ} → length u ≡ 16384 → length v ≡ 16384 → ((t s : ℕ) → t < 128 → s < 128 → slot u t s ≡ slot v t s) → u ≡ v
unfolding slot
cells_one {u} {v} a b e =
    ext_get_or 0 u v (a ∙ sym b)
    (λ i l.
    let z : 128 * (i / 128) + i % 128 ≡ i = omega arith in
    ap (λ (n : ℕ). get_or u n 0) (sym z) ∙ e (i / 128) (i % 128) (omega (arith, a)) (omega arith) ∙ ap (λ (n : ℕ). get_or v n 0) z)

-- of `fill_vectors`: the answer, and every byte
pub outcome_one : {f c v u x : List ℕ} {n : ℕ} {w : Words} {r q : Bool} → VectorsMade f n w c v u r → VectorsMade f n w c v x q → length u ≡ 16384 → length x ≡ 16384
    → (r ≡ q) × (u ≡ x)
outcome_one {r = r} o p a b =
    let e = o.is ∙ sym p.is in (
      e,
      ifso r (λ y. cells_one a b (λ t s l k. o.vectors y t s l k ∙ sym (p.vectors (sym e ∙ y) t s l k))) (λ n. o.kept n ∙ sym (p.kept (sym e ∙ n))),
    )

-- of `known`
pub joined_one : {f v : List ℕ} {t width : ℕ} {r q : Words} → Joined f v t width r → Joined f v t width q → MachineSet r → MachineSet q → r ≡ q
joined_one {r = r} {q = q} x y a b =
    let e = row_one {a = r.lo} {b = r.hi} {c = q.lo} {d = q.hi} (λ i l. x.is i l ∙ sym (y.is i l)) a.lo a.hi b.lo b.hi in
    λ i. record { lo = e.0 i; hi = e.1 i }
