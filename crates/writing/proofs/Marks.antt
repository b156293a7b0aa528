-- A history's steps, each with the session of its transaction: the blocks that a trace of either edition is made of.
use Prim.Native.Nat.{ℕ, ◌+◌}
use mathlib.Core.Path.{◌≡◌, refl, ap, sym, ◌∙◌}
use mathlib.Core.Bool.{Bool, true, false}
use mathlib.Core.List.{List, [], ◌∷◌, ◌++◌, map}
use Rattle.base.specs.Base.{pick, listed}
use Rattle.base.proofs.Searches.{downward, listed-step, listed_end}
use Rattle.rules.specs.History.{History, Op, tx, op, op_count, size, is_open}
use Rattle.rules.specs.declared.Event.{Event}
use Rattle.rules.specs.declared.Event.TheVariants.{Open, Read, Write, Close, End, Note, Other}
use Rattle.writing.specs.Listing.{op_step, op_step_of, close_step, tx_steps, history_steps}
use Rattle.writing.specs.Forms.{Marked, mark, tx_block, blocks_of}
use Rattle.writing.proofs.Lengths.{map_append}

-- the session behind an event, where n was that before it
unfoldable pub session_after : ℕ → Event → ℕ
session_after n (Open s) = s
session_after n (Read x v) = n
session_after n (Write x v) = n
session_after n (Close c) = n
session_after n (End m) = n
session_after n Note = n
session_after n Other = n

-- .. behind several
unfoldable pub session_past : ℕ → List Event → ℕ
session_past n [] = n
session_past n (e ∷ es) = session_past (session_after n e) es

-- each event with the session behind it
unfoldable pub marking : ℕ → List Event → List Marked
marking n [] = []
marking n (e ∷ es) = mark (session_after n e) e ∷ marking (session_after n e) es

-- ── more events ──

pub marking-none : (n : ℕ) → marking n [] ≡ []
unfolding marking
marking-none n = refl

pub marking_append : (n : ℕ) (es fs : List Event) → marking n (es ++ fs) ≡ marking n es ++ marking (session_past n es) fs
unfolding marking session_past
marking_append n [] fs = refl
marking_append n (e ∷ es) fs = ap (λ l. mark (session_after n e) e ∷ l) (marking_append (session_after n e) es fs)

-- one more
pub marking_more : (n : ℕ) (es : List Event) (e : Event) → marking n (es ++ (e ∷ [])) ≡ marking n es ++ (mark (session_after (session_past n es) e) e ∷ [])
unfolding marking
marking_more n es e = marking_append n es (e ∷ [])

pub behind_more : (n : ℕ) (es : List Event) (e : Event) → session_past n (es ++ (e ∷ [])) ≡ session_after (session_past n es) e
unfolding session_past
behind_more n [] e = refl
behind_more n (f ∷ es) e = behind_more (session_after n f) es e

-- ── one transaction ──

-- events that keep the session, whatever it is
record Keep (es : List Event) : Type 0 where
  pub marks : (n : ℕ) → marking n es ≡ map (mark n) es
  pub stays : (n : ℕ) → session_past n es ≡ n

keep_none : Keep []
unfolding marking session_past
keep_none = record { marks = λ n. refl; stays = λ n. refl }

keep_append : (es fs : List Event) → Keep es → Keep fs → Keep (es ++ fs)
unfolding session_past
keep_append es fs a b =
    record {
      marks = λ n. marking_append n es fs ∙ rw (a.stays n, a.marks n, b.marks n) (sym (map_append (mark n) es fs));
      stays = λ n. behind es n ∙ rw (a.stays n) (b.stays n);
    }
  where
    behind : (l : List Event) (n : ℕ) → session_past n (l ++ fs) ≡ session_past (session_past n l) fs
    behind [] n = refl
    behind (e ∷ l) n = behind l (session_after n e)

keep_listed : (f : ℕ → List Event) (e : ℕ) → ((i : ℕ) → Keep (f i)) → (j : ℕ) → Keep (listed j e f)
keep_listed f e all =
    downward (λ j. Keep (listed j e f)) e (λ j g. rw (listed_end f j e g) keep_none)
    (λ j l ih. rw (listed-step f j e l) (keep_append (f j) (listed (j + 1) e f) (all j) ih))

-- an operation, and a close
keep_op : (o : Op) (b : Bool) → Keep (pick b (op_step o ∷ []) [])
unfolding pick op_step marking session_past session_after
keep_op o false = keep_none
keep_op o true = by o.is_write
  where
    by : (w : Bool) → Keep (pick w (Write o.key o.value) (Read o.key o.value) ∷ [])
    by true = record { marks = λ n. refl; stays = λ n. refl }
    by false = record { marks = λ n. refl; stays = λ n. refl }

keep_close : (c : ℕ) (b : Bool) → Keep (pick b [] (Close c ∷ []))
unfolding pick marking session_past session_after
keep_close c true = keep_none
keep_close c false = record { marks = λ n. refl; stays = λ n. refl }

-- whatever stood before it, a transaction's events have its session
block-marked : (h : History) (t n : ℕ) → marking n (tx_steps h t) ≡ tx_block h t
unfolding tx_block tx_steps op_step_of close_step marking session_after
block-marked h t n =
    let s = (tx h t).session in
    ap (λ l. mark s (Open s) ∷ l)
    ((keep_append (listed 1 (op_count h + 1) (op_step_of h t)) (close_step h t) (keep_listed (op_step_of h t) (op_count h + 1) (λ i. keep_op (op h i) _) 1) (keep_close _ (is_open h t))).marks s)

-- ── all of them ──

listed-marked : (f : ℕ → List Event) (g : ℕ → List Marked) (e : ℕ) → ((i n : ℕ) → marking n (f i) ≡ g i) → (j n : ℕ) → marking n (listed j e f) ≡ listed j e g
listed-marked f g e all =
    downward (λ j. (n : ℕ) → marking n (listed j e f) ≡ listed j e g) e (λ j k n. rw (listed_end f j e k, listed_end g j e k) (marking-none n))
    (λ j l ih n. rw (listed-step f j e l, listed-step g j e l) (marking_append n (f j) (listed (j + 1) e f) ∙ rw (all j n, ih (session_past n (f j)))))

pub blocks_marked : (h : History) → blocks_of h ≡ marking 0 (history_steps h)
unfolding blocks_of history_steps
blocks_marked h = sym (listed-marked (tx_steps h) (tx_block h) (size h) (block-marked h) 1 0)

-- histories with the same steps have the same blocks
pub blocks_told : (h g : History) → history_steps g ≡ history_steps h → blocks_of g ≡ blocks_of h
blocks_told h g e = blocks_marked g ∙ ap (marking 0) e ∙ sym (blocks_marked h)
