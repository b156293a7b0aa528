-- The definition's outcome is what is promised of turning a trace into steps, and the promise leaves one.
use Prim.Native.Nat.{ℕ, ◌+◌, ◌*◌, ◌<◌, ◌≤◌}
use mathlib.Core.Path.{◌≡◌, refl, ap, sym, ◌∙◌}
use mathlib.Core.Bool.{false}
use mathlib.Core.List.{List, [], append-nil}
use mathlib.Core.Logic.{⊎_elim, ◌↔◌}
use native.Mathlib.Omega.{arith}
use lib.ListN.{length}
use Rattle.base.specs.Base.{joined}
use Rattle.base.proofs.Tests.{ifso, split}
use Rattle.rules.specs.Numbers.{over}
use Rattle.rules.specs.History.{History, tx_count, op_count, current, empty}
use Rattle.rules.specs.Records.{is_second}
use Rattle.rules.specs.Reading.{Reading, refused, read, reading}
use Rattle.demand1.specs.Rows.{HasHistory}
use Rattle.demand1.proofs.Readings.{refuses_iff, has_read, read_has, history_one}
use Rattle.writing.specs.Filling.{refusing, answering, said, fill_of, Filled}
use Rattle.writing.specs.Steps.{steps_in, step_bytes}
use Rattle.writing.specs.Writing.{Followed, good, follow}
use Rattle.writing.specs.Listing.{history_steps, stepped}
use Rattle.writing.proofs.Grown.{Grown, grown_none}
use Rattle.writing.proofs.Filling.{into_short, into-fits}
use Rattle.writing.proofs.Followed.{followed, grown_follow, follow_end}
use Rattle.writing.proofs.Told.{told}
use Rattle.writing.proofs.Listing.{listed_refused, listed-second, listed-first}
use Rattle.writing.proofs.Listed.{read_grown, listing-length}
use Rattle.written.specs.Steps.{Comes, at_start, one_more}
use Rattle.written.specs.Declined.{steps_length, ListDeclines, trace_refused, second_edition, steps_short}
use Rattle.written.specs.Writes.{AllBytes}
use Rattle.written.specs.Lists.{StepsOf, ListsSteps}
use Rattle.written.proofs.StepBytes.{steps_back}
use Rattle.written.proofs.Bytes.{steps-bytes}
use Rattle.written.proofs.Unused.{known_steps, unused_steps}
use Rattle.written.proofs.Comes.{steps-over, comes-follow, Ends, at_step, inside, outside, ends}
use Rattle.written.proofs.Fills.{CameOut, declining, putting, declines_iff, fills, fills_one}
use Rattle.written.proofs.Small.{first_single, slim_read}

-- the bytes of a history's steps
abbrev pub listing : History → List ℕ
listing h = joined step_bytes (history_steps h)

-- ── what the steps of a trace come to ──

module _ (s : List ℕ) (b : AllBytes s) (first : is_second s ≡ false) {h : History} (r : HasHistory s h) where
  -- they are read back
  pub listing-back : steps_in (listing h) ≡ history_steps h
  listing-back = steps_back (read_grown first r).0 (slim_read s b (first_single first) r)

  -- and followed into the trace's history
  pub listing_good : follow empty 1 (steps_in (listing h)) ≡ good h
  listing_good =
      ap (follow empty 1) (listing-back ∙ sym (append-nil (history_steps h))) ∙ grown_follow (read_grown first r).0 [] ∙ follow_end h (1 + length (history_steps h)) (read_grown first r).1

  long : length (listing h) ≡ steps_length h
  long = listing-length s first r

  -- no more steps than sixteen bytes each
  comes_within : {x : List ℕ} {k : ℕ} {g : History} → Comes x k g → 16 * k < length x + 16
  comes_within at_start = omega arith
  comes_within (one_more c l p n) = omega arith

  pub steps_of_lem : StepsOf s (listing h)
  steps_of_lem =
      record {
        first_edition = first;
        is_bytes = steps-bytes (history_steps h);
        history = h;
        reads = r;
        comes = by (ends (listing h)) listing_good;
        unused = unused_steps (read_grown first r).0 (slim_read s b (first_single first) r);
        long = long;
      }
    where
      by : {f : Followed} → Ends (listing h) f → f ≡ good h → Comes (listing h) (2 * tx_count h + op_count h) h
      by (at_step c l f) e = let z : ◌≡◌ {A = ℕ} 0 1 = cc in absurd (omega arith)
      by (inside c l i) e = let z : ◌≡◌ {A = ℕ} 0 1 = cc in absurd (omega arith)
      by (outside {k} {h = g} c l d) e =
          let q : g ≡ h = cc in
          let n : k ≡ 2 * tx_count h + op_count h = omega (arith, long, comes_within c) in
          rw (← n) (rw q at c)

-- steps of a trace are known by its history
known : {s : List ℕ} (x : List ℕ) (a : StepsOf s x) → x ≡ listing a.history
known {s} x a =
    known_steps x a.is_bytes a.unused (2 * tx_count a.history + op_count a.history) a.long ∙ ap (joined step_bytes) (sym (told grown))
  where
    h : History
    h = a.history

    n : ℕ
    n = 2 * tx_count h + op_count h

    outside_now : current h ≡ 0
    outside_now = (read_grown a.first_edition a.reads).1

    good_now : follow empty 1 (steps_in x) ≡ good h
    good_now = comes-follow x a.comes ∙ ap (follow h (n + 1)) (steps-over x n h (omega (arith, a.long))) ∙ follow_end h (n + 1) outside_now

    grown : Grown (steps_in x) h
    grown = (followed empty 1 (steps_in x) grown_none good_now).0

-- the steps of a trace are one
pub steps_one : {s : List ℕ} (x y : List ℕ) → StepsOf s x → StepsOf s y → x ≡ y
steps_one {s} x y a b =
    let h : a.history ≡ b.history = history_one a.reads b.reads in
    known x a ∙ ap listing h ∙ sym (known y b)

-- ── the definition's cases ──

module _ (s o : List ℕ) where
  listed_short : is_second s ≡ false → {h : History} → HasHistory s h → length o < steps_length h → stepped s o ≡ fill_of (refusing 16 (steps_length h)) o
  listed_short first {h} r l =
      let n = listing-length s first r in
      listed-first s o (read_has r) first ∙ into_short (listing h) o (omega arith) ∙ ap (λ (x : ℕ). fill_of (refusing 16 x) o) n

  pub listed-fits : is_second s ≡ false → {h : History} → HasHistory s h → steps_length h ≤ length o
      → stepped s o ≡ fill_of (answering (length (listing h))) (over (listing h) o)
  listed-fits first {h} r l =
      let n = listing-length s first r in
      listed-first s o (read_has r) first ∙ into-fits (listing h) o (omega arith)

  -- each refusal is the definition's
  pub steps_refused : (m p : ℕ) → ListDeclines s (length o) m p → stepped s o ≡ fill_of (refusing m p) o
  steps_refused m p (trace_refused {n} {at} x) = listed_refused s o ((refuses_iff s n at).1 x)
  steps_refused m p (second_edition t r) = listed-second s o (read_has r) t
  steps_refused m p (steps_short first r l) = listed_short first r l

  module _ (b : AllBytes s) where
    abbrev Out : Type 0
    Out = CameOut (ListDeclines s (length o)) (StepsOf s) o (stepped s o) steps_refused

    out : Out
    out = by (reading s) refl
      where
        by : (r : Reading) → reading s ≡ r → Out
        by (refused n p) e = declining n p (trace_refused ((refuses_iff s n p).0 e))
        by (read h notes) e =
            let r = has_read e in
            ifso (is_second s) (λ t. declining 6 0 (second_edition t r))
            (λ first.
            ⊎_elim (λ m. declining 16 (steps_length h) (steps_short first r m)) (λ g. putting (listing h) (steps_of_lem s b first r) (listed-fits first r g))
            (split (length o) (steps_length h)))

    -- refused exactly then
    pub list_declines_iff : (m p : ℕ) → ((stepped s o).answer ≡ refusing m p) ↔ ListDeclines s (length o) m p
    list_declines_iff = declines_iff (ListDeclines s (length o)) (StepsOf s) o (stepped s o) steps_refused out

    -- any answer and content that the contract admits
    pub lists : (r : Filled) (c : List ℕ) → fill_of (said r) c ≡ stepped s o → ListsSteps s o r c
    lists = fills (ListDeclines s (length o)) (StepsOf s) o (stepped s o) steps_refused out

-- any two outcomes that the promise admits coincide
pub lists_one : {s o : List ℕ} {r q : Filled} {c d : List ℕ} → ListsSteps s o r c → ListsSteps s o q d → (said r ≡ said q) × (c ≡ d)
lists_one x y = fills_one steps_one x y
