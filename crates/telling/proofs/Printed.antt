-- The texts that are computed are what the documents say is printed, and no other texts are.
use Prim.Native.Nat.{ℕ}
use mathlib.Core.Path.{◌≡◌, refl, ap, sym, ◌∙◌}
use mathlib.Core.Bool.{false≢true}
use mathlib.Core.List.{List}
use mathlib.Core.Logic.{◌↔◌}
use lib.ListN.{length, take}
use Rattle.std.specs.Prelude.{Result, Ok, Err}
use Rattle.rules.specs.Numbers.{bytes, over}
use Rattle.rules.specs.Refusals.{Declined, declined}
use Rattle.rules.proofs.Numbers.{bytes-length, over-front}
use Rattle.text.specs.Lines.{refused_line}
use Rattle.writing.specs.Filling.{Said, Work, refusal, content, Fill, fill_of, into}
use Rattle.writing.proofs.Filling.{into-fits}
use Rattle.written.specs.Fills.{FilledWith, FillsBy, saying}
use Rattle.written.specs.Writes.{AllBytes}
use Rattle.written.specs.Rewrites.{WholeDeclines}
use Rattle.written.specs.Given.{GivenDeclines}
use Rattle.written.proofs.Writes.{trace_one}
use Rattle.written.proofs.Given.{writes_given_by}
use Rattle.written.proofs.Rewrites.{again_one, rewrites_whole_by}
use Rattle.telling.specs.Telling.{work_text, given_text, rewritten_text}
use Rattle.telling.specs.Printed.{PrintedBy, the_refusal, the_trace, GivenPrinted, AgainPrinted}
use Rattle.telling.proofs.Texts.{Fits, Does, given_does, rewritten_does}

-- ── a promise that is kept ──

-- what was put stands at the front
put_front : {P : List ℕ → Type 0} {o b : List ℕ} {m : ℕ} (x : FilledWith P o b m) → take m b ≡ x.content
put_front {o = o} {b = b} x = ap (λ (n : ℕ). take n b) x.long ∙ ap (take (length x.content)) x.is ∙ over-front x.content o

-- the text of an answer with any number, where the buffer then holds b
unfoldable numbered_text : Result ℕ Declined → List ℕ → List ℕ
numbered_text (Err d) b = refused_line d.no d.place
numbered_text (Ok m) b = take m b

module _ {D : ℕ → ℕ → Type 0} {P : List ℕ → Type 0} {o b : List ℕ} where
  -- the text of the answer is printed
  filled_printed : (r : Result ℕ Declined) → FillsBy saying D P o r b → PrintedBy D P (numbered_text r b)
  unfolding numbered_text saying
  filled_printed (Err d) f = the_refusal ((f.refused d.no d.place).0 refl)
  filled_printed (Ok m) f =
      let put = f.filled m refl in
      the_trace {b = take m b} (λ n p d. false≢true (ap (λ (a : Said). a.is_refused) ((f.refused n p).1 d))) (rw (put_front put) put.good)

  -- .. and no other, where P leaves one trace
  printed_one : {r : Result ℕ Declined} → FillsBy saying D P o r b → ((x y : List ℕ) → P x → P y → x ≡ y) → {x y : List ℕ} → PrintedBy D P x → PrintedBy D P y → x ≡ y
  printed_one f one (the_refusal {n} {p} d) (the_refusal {n = m} {p = q} e) =
      let z = sym ((f.refused n p).1 d) ∙ (f.refused m q).1 e in rw (ap (λ (a : Said). a.no) z, ap (λ (a : Said). a.place) z)
  printed_one f one (the_refusal {n} {p} d) (the_trace none y) = absurd (none n p d)
  printed_one f one (the_trace none x) (the_refusal {n} {p} d) = absurd (none n p d)
  printed_one f one (the_trace _ x) (the_trace _ y) = one _ _ x y

-- ── a call ──

-- a buffer of as many bytes as a trace may have
abbrev room : List ℕ
room = bytes 32768 0

-- what work makes of it, and the text of that
outcome : (w : Work) → Fits w → (r : Result ℕ Declined) × (b : List ℕ) × (fill_of (saying r) b ≡ into w room) × (numbered_text r b ≡ work_text w)
unfolding saying into numbered_text work_text
outcome (refusal n p) f = (Err (declined n p), room, refl, refl)
outcome (content l) f = (Ok (length l), over l room, sym (into-fits l room (rw (bytes-length 32768 0) f)), over-front l room)

-- the text of a call is what is printed, and the only one, where the call keeps its promise with any buffer and P leaves one trace
pub printed_iff : {fill : List ℕ → Fill} {t : List ℕ} → Does fill t → (D : ℕ → ℕ → ℕ → Type 0) {P : List ℕ → Type 0} → ((x y : List ℕ) → P x → P y → x ≡ y)
    → ((o : List ℕ) (r : Result ℕ Declined) (b : List ℕ) → fill_of (saying r) b ≡ fill o → FillsBy saying (D (length o)) P o r b)
    → (x : List ℕ) → (t ≡ x) ↔ PrintedBy (D 32768) P x
printed_iff {fill} {t} does D {P} one kept x =
    let out = outcome does.work does.fits in
    let long = bytes-length 32768 0 in
    let f : FillsBy saying (D 32768) P room out.0 out.1 = rw long at (kept room out.0 out.1 (out.2 ∙ sym (does.puts room))) in
    let e : numbered_text out.0 out.1 ≡ t = out.3 ∙ does.text in
    let printed : PrintedBy (D 32768) P t = rw e at (filled_printed out.0 f) in
    (λ i. rw i at printed, printed_one f one printed)

pub given_printed_iff : {g : List ℕ} → AllBytes g → (x : List ℕ) → (given_text g ≡ x) ↔ GivenPrinted g x
given_printed_iff {g} b = printed_iff (given_does g) (GivenDeclines g) trace_one (λ o. writes_given_by g b o saying)

pub rewritten_printed_iff : {s : List ℕ} → AllBytes s → (x : List ℕ) → (rewritten_text s ≡ x) ↔ AgainPrinted s x
rewritten_printed_iff {s} b = printed_iff (rewritten_does s) (WholeDeclines s) again_one (λ o. rewrites_whole_by s b o saying)
