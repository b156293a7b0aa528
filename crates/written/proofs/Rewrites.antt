-- A trace is written again as promised, and each promise leaves one outcome.
use Prim.Native.Nat.{ℕ, ◌+◌, ◌%◌, ◌^◌, ◌<◌, ◌≤◌}
use mathlib.Core.Path.{◌≡◌, refl, ap, sym, ◌∙◌}
use mathlib.Core.Bool.{false}
use mathlib.Core.List.{List}
use mathlib.Core.Logic.{⊎_elim, ◌↔◌}
use native.Mathlib.Omega.{arith}
use lib.ListN.{length}
use Rattle.base.proofs.Tests.{ifso, split}
use Rattle.std.specs.Prelude.{Ok}
use Rattle.rules.specs.Numbers.{over}
use Rattle.rules.specs.History.{History}
use Rattle.rules.specs.Records.{is_second}
use Rattle.rules.specs.Reading.{Reading, refused, read, reading}
use Rattle.demand1.specs.Rows.{serial, ReadInto, HasHistory}
use Rattle.demand1.proofs.Lawful.{lawful_history}
use Rattle.demand1.proofs.Readings.{refuses_iff, has_history, has_read, read_has, history_one}
use Rattle.writing.specs.Filling.{Said, refusing, answering, said, content, Fill, fill_of, into, Filled}
use Rattle.writing.specs.Steps.{steps_in}
use Rattle.writing.specs.Writing.{trace_of, written}
use Rattle.writing.specs.Listing.{history_steps, stepped}
use Rattle.writing.specs.Rewriting.{rewritten, rewritten_whole}
use Rattle.writing.proofs.Filling.{into-fits}
use Rattle.writing.proofs.Listed.{listing-length}
use Rattle.writing.proofs.Rewriting.{again_refused, again-steps, whole_refused, whole-second, whole-first}
use Rattle.written.specs.Declined.{trace_length, steps_length, ListDeclines, trace_refused, second_edition, steps_short}
use Rattle.written.specs.Fills.{FillsBy}
use Rattle.written.specs.Writes.{AllBytes, record_at}
use Rattle.written.specs.Rewrites.{RewriteDeclines, steps_declined, output_short, WholeDeclines, not_read, is_second_lem, too_short, WrittenAgain, StepsLeft, RewritesTrace, RewritesWhole}
use Rattle.written.proofs.Slim.{le_below, slim_steps}
use Rattle.written.proofs.Readback.{read_back}
use Rattle.written.proofs.Bytes.{steps-bytes}
use Rattle.written.proofs.Retold.{own-bytes}
use Rattle.written.proofs.Declined.{written_good, written_short, written-fits}
use Rattle.written.proofs.Writes.{trace_of_lem}
use Rattle.written.proofs.Lists.{listing, listing-back, listing_good, steps_of_lem, steps_one, listed-fits, steps_refused}
use Rattle.written.proofs.Fills.{CameOut, declining, putting, declines_iff, fills_by, fills, fills_one}

-- ── a trace that is written of a trace's steps ──

module _ (s : List ℕ) (b : AllBytes s) (first : is_second s ≡ false) {h : History} (r : HasHistory s h) where
  abbrev anew : List ℕ
  anew = trace_of (serial s 0) (steps_in (listing h)) h

  -- its records are those of the trace's history
  anew_is : anew ≡ trace_of (serial s 0) (history_steps h) h
  anew_is = ap (λ es. trace_of (serial s 0) es h) (listing-back s b first r)

  own-anew : (k : History) → ReadInto s k 0 → anew ≡ s
  own-anew k q =
      let e : h ≡ k = history_one r (has_history q) in
      anew_is ∙ ap (λ (g : History). trace_of (serial s 0) (history_steps g) g) e ∙ own-bytes s b first q

  is-again : WrittenAgain s anew
  is-again =
      let bytes = steps-bytes (history_steps h) in
      let low = le_below 4 s 4 b in
      let good = listing_good s b first r in
      record {
        steps = listing h;
        its_steps = steps_of_lem s b first r;
        their_trace = trace_of_lem (listing h) bytes (serial s 0) low h good;
        history = h;
        reads = r;
        reads_back = read_back (serial s 0) low (steps_in (listing h)) h good (slim_steps (listing h) bytes);
        own = own-anew;
      }

  -- the outcome y of a call that writes it into a buffer that holds o
  module _ (o : List ℕ) {y : Fill} (is : y ≡ written (listing h) (serial s 0) o) where
    anew_short : length o < trace_length h → y ≡ fill_of (refusing 16 (trace_length h)) o
    anew_short l = is ∙ written_short (listing h) (serial s 0) o (listing_good s b first r) l

    came_anew : (D : ℕ → ℕ → Type 0) (d : (m p : ℕ) → D m p → y ≡ fill_of (refusing m p) o) → (length o < trace_length h → D 16 (trace_length h))
        → CameOut D (WrittenAgain s) o y d
    came_anew D d short =
        ⊎_elim (λ l. declining 16 (trace_length h) (short l))
        (λ g. putting anew is-again (is ∙ written-fits (listing h) (serial s 0) o (listing_good s b first r) g)) (split (length o) (trace_length h))

  -- where the steps have room in a buffer that holds x
  with_steps : (x o : List ℕ) → steps_length h ≤ length x → rewritten s x o ≡ written (listing h) (serial s 0) o
  with_steps x o l = again-steps s x o (listing h) (listed-fits s x first r l)

-- what is written again is known by the trace's history and its first serial
module _ {s : List ℕ} {x : List ℕ} (a : WrittenAgain s x) where
  same-serial : serial x 0 ≡ (serial s 0 + 0) % 2 ^ 32
  unfolding record_at
  same-serial = a.their_trace.serials 0 (omega arith)

  known_again : trace_of (serial x 0) (history_steps a.history) a.history ≡ x
  known_again = own-bytes x a.their_trace.is_bytes a.their_trace.first_edition a.reads_back

  pub again-is : AllBytes s → x ≡ trace_of (serial s 0) (history_steps a.history) a.history
  again-is b =
      let e : serial x 0 ≡ serial s 0 = same-serial ∙ omega (arith, le_below 4 s 4 b) in
      sym known_again ∙ ap (λ (n : ℕ). trace_of n (history_steps a.history) a.history) e

pub again_one : {s : List ℕ} (x y : List ℕ) → WrittenAgain s x → WrittenAgain s y → x ≡ y
again_one x y a c =
    let e : serial x 0 ≡ serial y 0 = same-serial a ∙ sym (same-serial c) in
    let h : a.history ≡ c.history = history_one a.reads c.reads in
    sym (known_again a) ∙ rw (e, h) (known_again c)

-- ── by way of a buffer for the steps ──

module _ (s : List ℕ) (b : AllBytes s) (x o : List ℕ) where
  again_declined : (m p : ℕ) → RewriteDeclines s (length x) (length o) m p → rewritten s x o ≡ fill_of (refusing m p) o
  again_declined m p (steps_declined d) = again_refused s x o (ap (λ (y : Fill). y.answer) (steps_refused s x m p d))
  again_declined m p (output_short first r l short) = anew_short s b first r o (with_steps s b first r x o l) short

  abbrev Again : Type 0
  Again = CameOut (RewriteDeclines s (length x) (length o)) (WrittenAgain s) o (rewritten s x o) again_declined

  came_again : Again
  came_again = by (reading s) refl
    where
      by : (r : Reading) → reading s ≡ r → Again
      by (refused n p) e = declining n p (steps_declined (trace_refused ((refuses_iff s n p).0 e)))
      by (read h notes) e =
          let r = has_read e in
          ifso (is_second s) (λ t. declining 6 0 (steps_declined (second_edition t r)))
          (λ first.
          ⊎_elim (λ m. declining 16 (steps_length h) (steps_declined (steps_short first r m)))
          (λ l. came_anew s b first r o (with_steps s b first r x o l) _ again_declined (output_short first r l)) (split (length x) (steps_length h)))

  -- refused exactly then
  pub rewrite_declines_iff : (m p : ℕ) → ((rewritten s x o).answer ≡ refusing m p) ↔ RewriteDeclines s (length x) (length o) m p
  rewrite_declines_iff = declines_iff (RewriteDeclines s (length x) (length o)) (WrittenAgain s) o (rewritten s x o) again_declined came_again

  steps_left : StepsLeft s x (stepped s x).buffer
  steps_left =
      record {
        unchanged = λ n p d. ap (λ (y : Fill). y.buffer) (steps_refused s x n p d);
        listed = λ h first r l. record {
          content = listing h;
          good = steps_of_lem s b first r;
          long = sym (listing-length s first r);
          is = ap (λ (y : Fill). y.buffer) (listed-fits s x first r l);
        };
      }

  -- any answer and contents that the contract admits
  pub rewrites : (r : Filled) (X B : List ℕ) → fill_of (said r) B ≡ rewritten s x o → X ≡ (stepped s x).buffer → RewritesTrace s x o r X B
  rewrites r X B e i =
      record { again = fills (RewriteDeclines s (length x) (length o)) (WrittenAgain s) o (rewritten s x o) again_declined came_again r B e; steps = rw i steps_left }

-- what the buffer for the steps then holds is one
left_one : {s x X Y : List ℕ} → StepsLeft s x X → StepsLeft s x Y → X ≡ Y
left_one {s} {x} {X} {Y} a c = by (reading s) refl
  where
    both_unchanged : {n p : ℕ} → ListDeclines s (length x) n p → X ≡ Y
    both_unchanged {n} {p} d = a.unchanged n p d ∙ sym (c.unchanged n p d)

    both_listed : (h : History) → is_second s ≡ false → HasHistory s h → steps_length h ≤ length x → X ≡ Y
    both_listed h first r l =
        let u = a.listed h first r l in
        let v = c.listed h first r l in
        u.is ∙ ap (λ (y : List ℕ). over y x) (steps_one u.content v.content u.good v.good) ∙ sym v.is

    by : (r : Reading) → reading s ≡ r → X ≡ Y
    by (refused n p) e = both_unchanged (trace_refused ((refuses_iff s n p).0 e))
    by (read h notes) e =
        let r = has_read e in
        ifso (is_second s) (λ t. both_unchanged (second_edition t r))
        (λ first. ⊎_elim (λ m. both_unchanged (steps_short first r m)) (λ l. both_listed h first r l) (split (length x) (steps_length h)))

-- any two outcomes that the promise admits coincide
pub rewrites_one : {s x o : List ℕ} {r q : Filled} {X Y B C : List ℕ} → RewritesTrace s x o r X B → RewritesTrace s x o q Y C → (said r ≡ said q) × (X ≡ Y) × (B ≡ C)
rewrites_one u v = let z = fills_one again_one u.again v.again in (z.0, left_one u.steps v.steps, z.1)

-- ── without one ──

module _ (s : List ℕ) (b : AllBytes s) (o : List ℕ) where
  whole_declined : (m p : ℕ) → WholeDeclines s (length o) m p → rewritten_whole s o ≡ fill_of (refusing m p) o
  whole_declined m p (not_read {n} {at} d) = whole_refused s o ((refuses_iff s n at).1 d)
  whole_declined m p (is_second_lem t r) = whole-second s o (read_has r) t
  whole_declined m p (too_short first r short) = anew_short s b first r o (whole-first s o (read_has r) first) short

  abbrev Whole : Type 0
  Whole = CameOut (WholeDeclines s (length o)) (WrittenAgain s) o (rewritten_whole s o) whole_declined

  came_whole : Whole
  came_whole = by (reading s) refl
    where
      by : (r : Reading) → reading s ≡ r → Whole
      by (refused n p) e = declining n p (not_read ((refuses_iff s n p).0 e))
      by (read h notes) e =
          let r = has_read e in
          ifso (is_second s) (λ t. declining 6 0 (is_second_lem t r))
          (λ first. came_anew s b first r o (whole-first s o e first) _ whole_declined (too_short first r))

  pub whole_declines_iff : (m p : ℕ) → ((rewritten_whole s o).answer ≡ refusing m p) ↔ WholeDeclines s (length o) m p
  whole_declines_iff = declines_iff (WholeDeclines s (length o)) (WrittenAgain s) o (rewritten_whole s o) whole_declined came_whole

  pub rewrites_whole_by : {R : Type 0} (says : R → Said) (r : R) (B : List ℕ) → fill_of (says r) B ≡ rewritten_whole s o
      → FillsBy says (WholeDeclines s (length o)) (WrittenAgain s) o r B
  rewrites_whole_by = fills_by (WholeDeclines s (length o)) (WrittenAgain s) o (rewritten_whole s o) whole_declined came_whole

  pub rewrites_whole : (r : Filled) (B : List ℕ) → fill_of (said r) B ≡ rewritten_whole s o → RewritesWhole s o r B
  rewrites_whole = rewrites_whole_by said

pub whole_one : {s o : List ℕ} {r q : Filled} {B C : List ℕ} → RewritesWhole s o r B → RewritesWhole s o q C → (said r ≡ said q) × (B ≡ C)
whole_one u v = fills_one again_one u v

-- 16 bytes a step, of at most 2 * 127 + 1,024
steps_few : {s : List ℕ} {h : History} → HasHistory s h → steps_length h ≤ 20448
steps_few r =
    let few = lawful_history r in
    omega (arith, few.few_txs, few.few_ops)

-- so where that many are lent for the steps, refusals are those of the call without such a buffer, and 16 is for the trace
pub roomy_iff : {s : List ℕ} {x o : ℕ} → 20448 ≤ x → (m p : ℕ) → RewriteDeclines s x o m p ↔ WholeDeclines s o m p
roomy_iff {s} {x} {o} l m p = (to, from)
  where
    to : {n q : ℕ} → RewriteDeclines s x o n q → WholeDeclines s o n q
    to (steps_declined (trace_refused d)) = not_read d
    to (steps_declined (second_edition t r)) = is_second_lem t r
    to (steps_declined (steps_short first r k)) = absurd (omega (arith, steps_few r))
    to (output_short first r k short) = too_short first r short

    from : {n q : ℕ} → WholeDeclines s o n q → RewriteDeclines s x o n q
    from (not_read d) = steps_declined (trace_refused d)
    from (is_second_lem t r) = steps_declined (second_edition t r)
    from (too_short first r short) = output_short first r (omega (arith, steps_few r)) short

-- ── "a trace without notes, read and written again, gives its own bytes" ──

-- one of edition 1, whatever keeps the promise, where there is room
module _ {s : List ℕ} (b : AllBytes s) (first : is_second s ≡ false) {h : History} (q : ReadInto s h 0) (o : List ℕ) (m : length s ≤ length o) where
  own-written : written (listing h) (serial s 0) o ≡ fill_of (answering (length s)) (over s o)
  own-written =
      let r = has_history q in
      written_good (listing h) (serial s 0) o (listing_good s b first r) ∙ ap (λ (l : List ℕ). into (content l) o) (own-anew s b first r h q) ∙ into-fits s o m

  pub own-again : {x X B : List ℕ} {r : Filled} → steps_length h ≤ length x → RewritesTrace s x o r X B → (said r ≡ answering (length s)) × (B ≡ over s o)
  unfolding said
  own-again {x} l u =
      let w = rewrites s b x o (Ok (length s)) (stepped s x).buffer (over s o) (sym (with_steps s b first (has_history q) x o l ∙ own-written)) refl in
      let z = rewrites_one u w in
      (z.0, z.2)

  pub own-whole : {B : List ℕ} {r : Filled} → RewritesWhole s o r B → (said r ≡ answering (length s)) × (B ≡ over s o)
  unfolding said
  own-whole u = whole_one u (rewrites_whole s b o (Ok (length s)) (over s o) (sym (whole-first s o (read_has (has_history q)) first ∙ own-written)))
