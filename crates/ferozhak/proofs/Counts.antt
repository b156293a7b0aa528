-- The five counts in a buffer of their own, and as many as fit in the caller's.
use Prim.Native.Nat.{ℕ, ◌+◌, ◌-◌, ◌%◌, ◌<◌, ◌≤◌}
use mathlib.Core.Path.{◌≡◌, ap, sym, ◌∙◌}
use mathlib.Core.List.{List}
use native.Mathlib.Omega.{arith}
use lib.ListN.{length, take}
use lib.Seq.{take-take}
use Rattle.base.proofs.Fill.{Appended, appended_then, appended-front}
use Rattle.rules.specs.Numbers.{bytes, over}
use Rattle.rules.proofs.Numbers.{bytes-length, appended-over}
use Rattle.deciding.specs.Deciding.{five_bytes, whole_counts, whole_put}
use Rattle.deciding.proofs.Deciding.{whole-some, whole-all}

-- a number that was put ends four bytes further on
pub four_on : (n : ℕ) {o b : List ℕ} {at r : ℕ} → Appended o at b r (bytes 4 n) → r ≡ at + 4
four_on n x = omega (arith, x.end, bytes-length 4 n)

-- one behind the other
pub five-put : (f p t n at : ℕ) {o a b c d e : List ℕ} {i j k l m : ℕ} → Appended o 0 a i (bytes 4 f) → Appended a i b j (bytes 4 p) → Appended b j c k (bytes 4 t)
    → Appended c k d l (bytes 4 n) → Appended d l e m (bytes 4 at) → Appended o 0 e m (five_bytes f p t n at)
unfolding five_bytes
five-put f p t n at v w x y z = appended_then v (appended_then w (appended_then x (appended_then y z)))

-- how many bytes get a count, and that they are there
pub whole_below : (n : ℕ) → n < 20 → (n - n % 4 ≡ whole_counts n) × (n - n % 4 ≤ 20) × (n - n % 4 ≤ n)
whole_below n l = (omega (arith, whole-some n l), omega arith, omega arith)

pub whole_from : (n : ℕ) → 20 ≤ n → (20 ≡ whole_counts n) × (20 ≤ 20) × (20 ≤ n)
whole_from n l = (omega (arith, whole-all n l), omega arith, l)

-- all were put at the front of z, and the first n bytes of that at the front of cs
pub whole-put : {q : List ℕ} → length q ≡ 20 → {z a cs C : List ℕ} {e n : ℕ} → Appended z 0 a e q → n ≡ whole_counts (length cs) → n ≤ 20
    → Appended cs 0 C n (take n a) → C ≡ whole_put q cs
unfolding whole_put
whole-put {q} long {z} {a} {cs} {C} {e} {n} x w l y =
    let f : n ≤ e = omega (arith, x.end, long) in
    let t : take n a ≡ take n q = sym (take-take n e a f) ∙ ap (take n) (appended-front x) in
    appended-over y ∙ ap (λ (v : List ℕ). over v cs) (t ∙ ap (λ (k : ℕ). take k q) w)
