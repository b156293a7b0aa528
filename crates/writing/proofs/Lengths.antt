-- Records one behind the other, with the serials that come.
use Prim.Native.Nat.{ℕ, ◌+◌, ◌%◌, ◌^◌}
use mathlib.Core.Path.{◌≡◌, refl, ap, sym, ◌∙◌}
use mathlib.Core.List.{List, [], ◌∷◌, ◌++◌, map}
use lib.ListN.{length, length-append, length-map}
use Rattle.rules.specs.Traces.{Item, record_of, trace}
use Rattle.rules.specs.declared.Event.{Event}
use Rattle.rules.proofs.Traces.{record_length, serial_from, trace_one, trace_append}
use Rattle.writing.specs.Writing.{item_of, records_of}

pub map_append : {A B : Type 0} (f : A → B) (xs ys : List A) → map f (xs ++ ys) ≡ map f xs ++ map f ys
map_append f [] ys = refl
map_append f (x ∷ xs) ys = ap (λ l. f x ∷ l) (map_append f xs ys)

-- ── of whatever list ──

module _ {A : Type 0} (f : A → Item) (n : ℕ) (xs : List A) where
  -- more of them
  items_append : (ys : List A) → trace n (map f (xs ++ ys)) ≡ trace n (map f xs) ++ trace (serial_from n (length xs)) (map f ys)
  items_append ys = ap (trace n) (map_append f xs ys) ∙ trace_append n (map f xs) (map f ys) ∙ rw (length-map xs f)

  -- the first of those by itself
  pub items_split : (x : A) (ys : List A)
      → trace n (map f (xs ++ (x ∷ ys))) ≡ trace n (map f xs) ++ (record_of (serial_from n (length xs)) (f x) ++ trace ((serial_from n (length xs) + 1) % 2 ^ 32) (map f ys))
  unfolding trace
  items_split x ys = items_append (x ∷ ys)

  -- one more
  pub items_more : (x : A) → trace n (map f (xs ++ (x ∷ []))) ≡ trace n (map f xs) ++ record_of (serial_from n (length xs)) (f x)
  items_more x = items_append (x ∷ []) ∙ rw (trace_one (serial_from n (length xs)) (f x))

  -- .. by so many bytes
  pub items_length : (x : A) → length (trace n (map f (xs ++ (x ∷ [])))) ≡ length (trace n (map f xs)) + (8 + length (f x).payload)
  items_length x =
      ap length (items_more x) ∙ length-append (trace n (map f xs)) (record_of (serial_from n (length xs)) (f x)) ∙ rw (record_length (serial_from n (length xs)) (f x))

-- they are as long with other serials
pub any_serial : (n m : ℕ) (is : List Item) → length (trace n is) ≡ length (trace m is)
unfolding trace
any_serial n m [] = refl
any_serial n m (i ∷ is) =
    length-append (record_of n i) (trace ((n + 1) % 2 ^ 32) is)
    ∙ rw (record_length n i, any_serial ((n + 1) % 2 ^ 32) ((m + 1) % 2 ^ 32) is, ← record_length m i)
    (sym (length-append (record_of m i) (trace ((m + 1) % 2 ^ 32) is)))

-- ── of a sequence of steps ──

-- the first of them; one alone; one more
pub records_first : (n : ℕ) (e : Event) (es : List Event) → records_of n (e ∷ es) ≡ record_of n (item_of e) ++ records_of ((n + 1) % 2 ^ 32) es
unfolding records_of trace
records_first n e es = refl

pub records_one : (n : ℕ) (e : Event) → records_of n (e ∷ []) ≡ record_of n (item_of e)
unfolding records_of
records_one n e = trace_one n (item_of e)

pub records_more : (n : ℕ) (es : List Event) (e : Event) → records_of n (es ++ (e ∷ [])) ≡ records_of n es ++ record_of (serial_from n (length es)) (item_of e)
unfolding records_of
records_more n es e = items_more item_of n es e

-- .. by so many bytes
pub records_length : (n : ℕ) (es : List Event) (e : Event) → length (records_of n (es ++ (e ∷ []))) ≡ length (records_of n es) + (8 + length (item_of e).payload)
unfolding records_of
records_length n es e = items_length item_of n es e
