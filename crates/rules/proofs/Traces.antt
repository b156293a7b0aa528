-- Laws of records as bytes.
use Prim.Native.Nat.{ℕ, zero, suc, ◌+◌, ◌%◌, ◌^◌, ◌<◌}
use mathlib.Core.Path.{◌≡◌, refl, sym, ◌∙◌}
use mathlib.Core.List.{List, [], ◌∷◌, ◌++◌, append_assoc, append-nil}
use native.Mathlib.Omega.{arith}
use lib.ListN.{length}
use Rattle.rules.specs.Numbers.{bytes}
use Rattle.rules.specs.Traces.{Item, raw, record_of, trace}

-- a header of 8 bytes, and the payload
pub record_length : (n : ℕ) (i : Item) → length (record_of n i) ≡ 8 + length i.payload
unfolding record_of raw bytes
record_length n i = omega arith

-- the serial that comes k records after n
unfoldable pub serial_from : ℕ → ℕ → ℕ
serial_from n zero = n
serial_from n (suc k) = serial_from ((n + 1) % 2 ^ 32) k

-- "after 4,294,967,295 comes 0"
pub serial_is : (n k : ℕ) → n < 2 ^ 32 → serial_from n k ≡ (n + k) % 2 ^ 32
unfolding serial_from
serial_is n zero l = omega arith
serial_is n (suc k) l = serial_is ((n + 1) % 2 ^ 32) k (omega arith) ∙ omega arith

pub serial_below : (n k : ℕ) → n < 2 ^ 32 → serial_from n k < 2 ^ 32
serial_below n k l = rw (serial_is n k l) (omega arith)

pub serial-next : (n k : ℕ) → n < 2 ^ 32 → serial_from n (k + 1) ≡ (serial_from n k + 1) % 2 ^ 32
serial-next n k l = rw (serial_is n (k + 1) l, serial_is n k l) (omega arith)

pub trace_one : (n : ℕ) (i : Item) → trace n (i ∷ []) ≡ record_of n i
unfolding trace
trace_one n i = append-nil (record_of n i)

pub trace_append : (n : ℕ) (xs ys : List Item) → trace n (xs ++ ys) ≡ trace n xs ++ trace (serial_from n (length xs)) ys
unfolding trace serial_from
trace_append n [] ys = refl
trace_append n (x ∷ xs) ys =
    rw (trace_append ((n + 1) % 2 ^ 32) xs ys) (sym (append_assoc (record_of n x) (trace ((n + 1) % 2 ^ 32) xs) (trace (serial_from ((n + 1) % 2 ^ 32) (length xs)) ys)))
