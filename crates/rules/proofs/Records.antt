-- Numbers that stand in a part of a trace, such as a record's payload.
use Prim.Native.Nat.{ℕ, zero, suc, ◌+◌, ◌-◌, ◌≤◌}
use mathlib.Core.Path.{◌≡◌, refl, ap, ◌∙◌}
use mathlib.Core.List.{List}
use native.Mathlib.Omega.{arith}
use lib.ListN.{drop}
use lib.Seq.{get_or-take, get_or-drop}
use Rattle.rules.specs.Numbers.{le, part}
use Rattle.rules.specs.Records.{len_at, payload_at}

-- a number in a part is the number in the whole, where it lies within the part
pub le-part : (w a e : ℕ) (s : List ℕ) (i : ℕ) → i + w ≤ e - a → le w (part a e s) i ≡ le w s (a + i)
unfolding le
le-part zero a e s i h = refl
le-part (suc w) a e s i h =
    let n : (a + i) + 1 ≡ a + (i + 1) = omega arith in
    rw (n, ← le-part w a e s (i + 1) (omega arith), get_or-take (e - a) (drop a s) i 0 (omega arith), get_or-drop a s i 0)

-- the number that a payload of two bytes or more begins with
pub payload_begins : (s : List ℕ) (at : ℕ) → 8 ≤ len_at s at → le 2 (payload_at s at) 0 ≡ le 2 s (at + 8)
payload_begins s at l = let a : at + 8 + 0 ≡ at + 8 = omega arith in le-part 2 (at + 8) (at + 2 + len_at s at) s 0 (omega arith) ∙ ap (le 2 s) a
