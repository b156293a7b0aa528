-- The text of an answer is what the definition says, whatever the buffer held: what is made has room in 32,768 bytes, so 16 is never given.
use Prim.Native.Nat.{ℕ, ◌≤◌}
use mathlib.Core.Path.{◌≡◌, refl, ap, sym, ◌∙◌}
use mathlib.Core.Bool.{Bool, true, false, true≢false, false≢true}
use mathlib.Core.List.{List, [], map}
use native.Mathlib.Omega.{arith}
use lib.Dec.{ltb}
use lib.ListN.{length, take, drop}
use Rattle.std.specs.Prelude.{Result, Ok, Err}
use Rattle.base.specs.Base.{pick, joined}
use Rattle.base.proofs.Tests.{pick_of, pick_both}
use Rattle.rules.specs.Numbers.{le}
use Rattle.rules.proofs.Numbers.{over-front}
use Rattle.rules.specs.Refusals.{Declined, told as in_numbers}
use Rattle.rules.specs.declared.Refusal.{Refusal}
use Rattle.rules.specs.History.{History, empty}
use Rattle.rules.specs.Records.{serial_at, is_second}
use Rattle.rules.specs.Reading.{Reading, refused, read, reading}
use Rattle.demand1.proofs.Readings.{read_short, reads_iff}
use Rattle.demand1.proofs.Lengths.{lawful_reading}
use Rattle.text.specs.Lines.{refused_line, notes_line}
use Rattle.trace.specs.Trace.{answered}
use Rattle.writing.specs.Filling.{Filled, refusing, said, Work, refusal, content, Fill, fill_of, Gives, into}
use Rattle.writing.specs.Steps.{step_bytes, steps_in}
use Rattle.writing.specs.Writing.{Followed, bad, good, follow, wrote, written, written_given}
use Rattle.writing.specs.Listing.{history_steps}
use Rattle.writing.specs.Rewriting.{rewritten_read, rewritten_whole}
use Rattle.writing.specs.Forms.{item_in, whole_of}
use Rattle.writing.proofs.Filling.{into-fits}
use Rattle.writing.proofs.Grown.{grown_none, counts}
use Rattle.writing.proofs.Followed.{followed}
use Rattle.writing.proofs.Lengths.{any_serial}
use Rattle.writing.proofs.Sizes.{whole_size, whole_length, trace-length}
use Rattle.moving.specs.Moving.{is_same, moved_trace, first_list, moved_read, moved_to}
use Rattle.moving.proofs.Grown.{blocks_grown, blocks_over}
use Rattle.telling.specs.Telling.{work_text, made_text, given_text, again_text, rewritten_text, moved_text, tallied_text, notes_text}
use Rattle.telling.specs.Parts.{filled_text, read_text}

-- ── work that has room ──

abbrev pub Fits : Work → Type 0
Fits (refusal n p) = Unit {0}
Fits (content l) = length l ≤ 32768

-- a call that fills a buffer does some work, whose text is t, and which has room
pub record Does (fill : List ℕ → Fill) (t : List ℕ) : Type 0 where
  pub work : Work
  pub fits : Fits work
  pub puts : (o : List ℕ) → fill o ≡ into work o
  pub text : work_text work ≡ t

-- what steps make
abbrev made : List ℕ → ℕ → Work
made s n = wrote n (steps_in s) (follow empty 1 (steps_in s))

made-fits : (s : List ℕ) (n : ℕ) → Fits (made s n)
unfolding wrote
made-fits s n = by (follow empty 1 (steps_in s)) refl
  where
    by : (f : Followed) → follow empty 1 (steps_in s) ≡ f → Fits (wrote n (steps_in s) f)
    by (bad m p) e = tt
    by (good g) e =
        let few = counts (followed empty 1 (steps_in s) grown_none e).0 in
        omega (arith, trace-length n (steps_in s) 1 g e, few.few_txs, few.few_ops)

-- .. unless a test refuses before
refused_or_made : (b : Bool) (m p : ℕ) (s : List ℕ) (n : ℕ)
    → Does (λ o. pick b (fill_of (refusing m p) o) (written s n o)) (pick b (refused_line m p) (made_text s n))
unfolding work_text made_text into written
refused_or_made b m p s n =
    record {
      work = pick b (refusal m p) (made s n);
      fits = pick_both Fits b tt (made-fits s n);
      puts = λ o. sym (pick_of (λ w. into w o) b (refusal m p) (made s n));
      text = pick_of work_text b (refusal m p) (made s n);
    }

pub given_does : (g : List ℕ) → Does (written_given g) (given_text g)
unfolding written_given given_text
given_does g = refused_or_made (ltb (length g) 4) 3 0 (drop 4 g) (le 4 g 0)

again_does : (s : List ℕ) (q : Reading) → Does (rewritten_read s q) (again_text s q)
unfolding rewritten_read again_text work_text into
again_does s (refused n p) = record { work = refusal n p; fits = tt; puts = λ o. refl; text = refl }
again_does s (read h notes) = refused_or_made (is_second s) 6 0 (joined step_bytes (history_steps h)) (serial_at s 0)

pub rewritten_does : (s : List ℕ) → Does (rewritten_whole s) (rewritten_text s)
unfolding rewritten_whole rewritten_text
rewritten_does s = again_does s (reading s)

-- a trace that was moved
size_most : (second : Bool) (t n : ℕ) → t ≤ 127 → n ≤ 1024 → whole_size second t n ≤ 32768
size_most false t n a b = omega arith
size_most true t n a b = omega arith

other_fits : (second : Bool) (n : ℕ) (s : List ℕ) {h : History} {notes : ℕ} → reading s ≡ read h notes → length (moved_trace second n h) ≤ 32768
unfolding moved_trace
other_fits second n s {h} e =
    let w = lawful_reading s e in
    let few = counts (blocks_grown w) in
    rw (any_serial n 0 (map (item_in second) (whole_of second h)), whole_length second 0 (omega arith) h (blocks_grown w) (blocks_over w))
    (size_most second _ _ few.few_txs few.few_ops)

moved-fits : (second : Bool) (s : List ℕ) → Fits (moved_read second s (reading s))
unfolding moved_read
moved-fits second s = by (reading s) refl
  where
    by : (r : Reading) → reading s ≡ r → Fits (moved_read second s r)
    by (refused n p) e = tt
    by (read h notes) e =
        pick_both Fits (is_same (is_second s) second) (read_short ((reads_iff s h notes).0 e))
        (pick_both Fits (ltb (first_list s) (length s)) tt (other_fits second (serial_at s 0) s e))

pub moved_does : (second : Bool) (s : List ℕ) → Does (moved_to second s) (moved_text second s)
unfolding moved_to moved_text
moved_does second s = record { work = moved_read second s (reading s); fits = moved-fits second s; puts = λ o. refl; text = refl }

-- ── an answer's text ──

-- of the answer r, which made b of the buffer o
pub filled_text_lem : (r : Filled) (b o : List ℕ) → 32768 ≤ length o → (w : Work) → Fits w → fill_of (said r) b ≡ into w o → filled_text r b ≡ work_text w
unfolding filled_text work_text said into
filled_text_lem (Err d) b o room (refusal n p) f e = rw (ap (λ (x : Fill). x.answer.no) e, ap (λ (x : Fill). x.answer.place) e)
filled_text_lem (Ok m) b o room (refusal n p) f e = absurd (false≢true (ap (λ (x : Fill). x.answer.is_refused) e))
filled_text_lem (Err d) b o room (content l) f e =
    absurd (true≢false (ap (λ (x : Fill). x.answer.is_refused) (e ∙ into-fits l o (omega (arith, f)))))
filled_text_lem (Ok m) b o room (content l) f e =
    ap (λ (x : Fill). take x.answer.length x.buffer) (e ∙ into-fits l o (omega (arith, f))) ∙ over-front l o

-- .. of a call
pub told : {fill : List ℕ → Fill} {t : List ℕ} → Does fill t → {r : Filled} {b o : List ℕ} → 32768 ≤ length o → Gives r b (fill o) → filled_text r b ≡ t
told d {r} {b} {o} room x = filled_text_lem r b o room d.work d.fits (x.is ∙ d.puts o) ∙ d.text

-- ── the notes ──

declined_text : Result ℕ Declined → List ℕ
declined_text (Ok notes) = notes_line notes
declined_text (Err d) = []

pub notes_told : (r : Result ℕ Refusal) (s : List ℕ) → in_numbers r ≡ answered (reading s) → read_text r ≡ notes_text s
unfolding answered read_text notes_text tallied_text declined_text
notes_told r s e = by r ∙ ap declined_text e ∙ of (reading s)
  where
    by : (r : Result ℕ Refusal) → read_text r ≡ declined_text (in_numbers r)
    by (Ok notes) = refl
    by (Err d) = refl

    of : (q : Reading) → declined_text (answered q) ≡ tallied_text q
    of (refused n p) = refl
    of (read h notes) = refl
