-- What is written is bytes.
use Prim.Native.Nat.{ℕ, zero, suc, ◌+◌, ◌-◌, ◌/◌, ◌%◌, ◌^◌, ◌≤◌}
use mathlib.Core.Path.{◌≡◌, ap, ◌∙◌}
use mathlib.Core.Bool.{Bool, true, false}
use mathlib.Core.List.{List, [], ◌∷◌, ◌++◌, map}
use mathlib.Core.Logic.{⊎_elim}
use native.Mathlib.Omega.{arith}
use lib.ListN.{length, get_or, get_or-append}
use lib.Seq.{get_or-append-add}
use Rattle.base.specs.Base.{joined}
use Rattle.base.proofs.Tests.{split}
use Rattle.rules.specs.Numbers.{bytes}
use Rattle.rules.specs.Traces.{Item, raw, record_of, trace}
use Rattle.rules.specs.declared.Event.{Event}
use Rattle.rules.specs.declared.Event.TheVariants.{Open, Read, Write, Close, End, Note, Other}
use Rattle.writing.specs.Steps.{field_bytes, step_bytes}
use Rattle.writing.specs.Writing.{item_of, records_of}
use Rattle.writing.specs.Forms.{Marked, mark, item_with, item_in}
use Rattle.written.specs.Writes.{AllBytes}
use Rattle.written.proofs.Records.{session_bytes, open_item, read-item, write_item, close_item, end_item}

none : AllBytes []
none i = omega arith

append : (xs ys : List ℕ) → AllBytes xs → AllBytes ys → AllBytes (xs ++ ys)
append xs ys a b i =
    ⊎_elim (λ l. rw (get_or-append xs ys 0 i l) (a i))
    (λ (g : length xs ≤ i).
    let e : i ≡ length xs + (i - length xs) = omega arith in
    let q : get_or (xs ++ ys) i 0 ≡ get_or ys (i - length xs) 0 = ap (λ (j : ℕ). get_or (xs ++ ys) j 0) e ∙ get_or-append-add xs ys (i - length xs) 0 in
    rw q (b (i - length xs)))
    (split i (length xs))

number : (w n : ℕ) → AllBytes (bytes w n)
unfolding bytes
number zero n i = omega arith
number (suc w) n zero = omega arith
number (suc w) n (suc i) = number w (n / 256) i

session : (second : Bool) (n : ℕ) → AllBytes (session_bytes second n)
unfolding session_bytes
session false n = none
session true n = number 2 n

operation : (second : Bool) (n x v : ℕ) → AllBytes (session_bytes second n ++ (bytes 4 x ++ bytes 8 v))
operation second n x v = append (session_bytes second n) (bytes 4 x ++ bytes 8 v) (session second n) (append (bytes 4 x) (bytes 8 v) (number 4 x) (number 8 v))

payload : (second : Bool) (n : ℕ) (e : Event) → AllBytes (item_in second (mark n e)).payload
unfolding item_of item_with
payload second n (Open s) = rw (open_item n second s) (number 2 s)
payload second n (Read x v) = rw (read-item n second x v) (operation second n x v)
payload second n (Write x v) = rw (write_item n second x v) (operation second n x v)
payload second n (Close c) = rw (close_item n second c) (append (session_bytes second n) (bytes 1 c) (session second n) (number 1 c))
payload second n (End m) = rw (end_item n second m) (number 2 m)
payload false n Note = none
payload true n Note = none
payload false n Other = none
payload true n Other = number 2 2

one_record : (n : ℕ) (i : Item) → AllBytes i.payload → AllBytes (record_of n i)
unfolding record_of raw
one_record n i p =
    append (bytes 2 (6 + length i.payload) ++ bytes 2 i.kind ++ bytes 4 n) i.payload
    (append (bytes 2 (6 + length i.payload) ++ bytes 2 i.kind) (bytes 4 n) (append (bytes 2 (6 + length i.payload)) (bytes 2 i.kind) (number 2 _) (number 2 _)) (number 4 n))
    p

-- the records of a list
items : {A : Type 0} (f : A → Item) → ((x : A) → AllBytes (f x).payload) → (n : ℕ) (xs : List A) → AllBytes (trace n (map f xs))
unfolding trace
items f p n [] = none
items f p n (x ∷ xs) = append (record_of n (f x)) (trace ((n + 1) % 2 ^ 32) (map f xs)) (one_record n (f x) (p x)) (items f p ((n + 1) % 2 ^ 32) xs)

pub records_bytes : (n : ℕ) (es : List Event) → AllBytes (records_of n es)
unfolding records_of
records_bytes n es = items item_of (payload false 0) n es

pub marked-bytes : (second : Bool) (n : ℕ) (ms : List Marked) → AllBytes (trace n (map (item_in second) ms))
marked-bytes second n ms = items (item_in second) (λ m. payload second m.session m.event) n ms

fields : (k c x v : ℕ) → AllBytes (field_bytes k c x v)
unfolding field_bytes
fields k c x v =
    append (bytes 2 k ++ bytes 2 c ++ bytes 4 x) (bytes 8 v) (append (bytes 2 k ++ bytes 2 c) (bytes 4 x) (append (bytes 2 k) (bytes 2 c) (number 2 k) (number 2 c)) (number 4 x)) (number 8 v)

-- a step, and all of them
one_step : (e : Event) → AllBytes (step_bytes e)
unfolding step_bytes
one_step (Open s) = fields 1 s 0 0
one_step (Read x v) = fields 2 0 x v
one_step (Write x v) = fields 3 0 x v
one_step (Close c) = fields 4 c 0 0
one_step (End n) = none
one_step Note = none
one_step Other = none

pub steps-bytes : (es : List Event) → AllBytes (joined step_bytes es)
unfolding joined
steps-bytes [] = none
steps-bytes (e ∷ es) = append (step_bytes e) (joined step_bytes es) (one_step e) (steps-bytes es)
