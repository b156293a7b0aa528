-- Document 02, "lists instead of single values": the five kinds of list read, clean ones, and the longest. Over a history h and the list l i of each list
-- read i, wherever it is held.
use Rattle.std.specs.Prelude.{ℕ, zero, suc, ◌+◌, ◌-◌, Bool, true, false, not, List, [], ◌∷◌, length, get_or, ltb, eqb}
use Rattle.base.specs.Base.{◌and◌, ◌or◌, pick, some, row, first_fit}
use Rattle.rules.specs.History.{History, tx, op, op_count, append_key}
use Rattle.rules.specs.Reads.{wrote_between}
use Rattle.appends_rules.specs.Appends.{key_of, append_of, appender_of, is_judged_list}

-- ── lists ──

-- b starts with a
unfoldable pub begins : List ℕ → List ℕ → Bool
begins [] b = true
begins (x ∷ a) [] = false
begins (x ∷ a) (y ∷ b) = eqb x y and begins a b

-- one starts with the other
unfoldable pub in_line : List ℕ → List ℕ → Bool
in_line a b = begins a b or begins b a

-- element k, from 0; the last
abbrev pub element : List ℕ → ℕ → ℕ
element e k = get_or e k 0

abbrev pub last_element : List ℕ → ℕ
last_element e = get_or e (length e - 1) 0

-- ── elements at fault, in a list e of the key x ──

-- element k was "never appended"
unfoldable pub is_lost : History → ℕ → List ℕ → ℕ → Bool
is_lost h x e k = eqb (append_of h x (element e k)) 0

-- it is "equal to an earlier one", j being the earlier one's number
unfoldable pub same_element : List ℕ → ℕ → ℕ → Bool
same_element e k j = eqb (element e j) (element e k)

unfoldable pub is_again : List ℕ → ℕ → Bool
is_again e k = some 0 k (same_element e k)

-- its "appender has status 0"
unfoldable pub is_undone : History → ℕ → List ℕ → ℕ → Bool
is_undone h x e k = eqb (tx h (appender_of h x (element e k))).status 0

-- "the last element's append is in another transaction", than t, "that later appended to the key again"; w is that append, u its transaction
unfoldable pub is_half_by : History → ℕ → ℕ → ℕ → ℕ → Bool
is_half_by h t x w u = ltb 0 w and not (eqb u t) and wrote_between h u (append_key x) w (op_count h + 1)

unfoldable pub is_half : History → ℕ → ℕ → List ℕ → Bool
is_half h t x e = ltb 0 (length e) and is_half_by h t x (append_of h x (last_element e)) (appender_of h x (last_element e))

-- ── kinds; c says which earlier list reads are clean ──

-- j is a clean list read of x; "neither it nor some earlier clean list of the key starts with the other"
unfoldable pub is_of : History → (ℕ → Bool) → ℕ → ℕ → Bool
is_of h c x j = c j and eqb (key_of h j) x

unfoldable pub is_apart : History → (ℕ → List ℕ) → (ℕ → Bool) → ℕ → ℕ → Bool
is_apart h l c i j = is_of h c (key_of h i) j and not (in_line (l i) (l j))

-- "the first that fits is its kind", 0 where none does: e is its list, x its key, t its transaction, and `apart` says whether 11 fits
unfoldable pub list_kind_by : History → ℕ → ℕ → List ℕ → Bool → ℕ
list_kind_by h t x e apart =
    first_fit
    -- "7, an element never appended"
    (row (some 0 (length e) (is_lost h x e)) 7
    -- "8, an element equal to an earlier one"
    ∷ row (some 0 (length e) (is_again e)) 8
    -- "9, an element whose appender has status 0"
    ∷ row (some 0 (length e) (is_undone h x e)) 9
    -- "10, the last element's append is in another transaction that later appended to the key again"
    ∷ row (is_half h t x e) 10
    -- "11, neither it nor some earlier clean list of the key starts with the other"
    ∷ row apart 11
    ∷ [])

unfoldable pub kind_with : History → (ℕ → List ℕ) → (ℕ → Bool) → ℕ → ℕ
kind_with h l c i = list_kind_by h (op h i).tx (key_of h i) (l i) (some 1 i (is_apart h l c i))

unfoldable pub clean_with : History → (ℕ → List ℕ) → (ℕ → Bool) → ℕ → Bool
clean_with h l c i = is_judged_list h i and eqb (kind_with h l c i) 0

-- the clean list reads below n, each by those before it
unfoldable pub clean_below : History → (ℕ → List ℕ) → ℕ → ℕ → Bool
clean_below h l zero i = false
clean_below h l (suc n) i = pick (eqb i n) (clean_with h l (clean_below h l n) n) (clean_below h l n i)

-- the kind of list read i; "Otherwise it is clean"
unfoldable pub list_kind : History → (ℕ → List ℕ) → ℕ → ℕ
list_kind h l i = kind_with h l (clean_below h l i) i

unfoldable pub is_clean_list : History → (ℕ → List ℕ) → ℕ → Bool
is_clean_list h l i = clean_with h l (clean_below h l i) i

unfoldable pub is_list_finding : History → (ℕ → List ℕ) → ℕ → Bool
is_list_finding h l i = is_judged_list h i and ltb 0 (list_kind h l i)

-- ── the longest ──

-- the list of list read j; none where j is 0
unfoldable pub list_at : (ℕ → List ℕ) → ℕ → List ℕ
list_at l zero = []
list_at l (suc j) = l (suc j)

-- list read n is a clean one of x and longer than the list e
unfoldable pub is_longer : History → (ℕ → List ℕ) → ℕ → List ℕ → ℕ → Bool
is_longer h l x e n = is_of h (is_clean_list h l) x n and ltb (length e) (length (l n))

-- "The longest clean list of a key" among those below n: the number of the first that is as long as any; 0 where there is none but empty ones
unfoldable pub longest_below : History → (ℕ → List ℕ) → ℕ → ℕ → ℕ
longest_below h l x zero = 0
longest_below h l x (suc n) = pick (is_longer h l x (list_at l (longest_below h l x n)) n) n (longest_below h l x n)

unfoldable pub longest_of : History → (ℕ → List ℕ) → ℕ → ℕ
longest_of h l x = longest_below h l x (op_count h + 1)

-- list read i is the longest of its key
unfoldable pub is_longest : History → (ℕ → List ℕ) → ℕ → Bool
is_longest h l i = is_clean_list h l i and eqb (longest_of h l (key_of h i)) i
