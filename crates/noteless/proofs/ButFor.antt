-- Two traces that differ only in their notes are read into one history, so what does not hang on the number of notes is the same of both: the judge's outcome,
-- what is printed, the steps.
use Prim.Native.Nat.{ℕ}
use mathlib.Core.Path.{◌≡◌, refl, ap}
use mathlib.Core.List.{List}
use Rattle.rules.specs.History.{History}
use Rattle.rules.specs.Records.{is_second}
use Rattle.rules.specs.Reading.{Reading, read, reading}
use Rattle.rules.specs.Outcome.{judged, judged_read}
use Rattle.text.specs.Answer.{reading_text, answer_text}
use Rattle.demand1.proofs.Readings.{reads_iff, read_has}
use Rattle.writing.specs.Filling.{Work, into}
use Rattle.writing.specs.Listing.{steps_read, stepped}
use Rattle.noteless.specs.Without.{ButForNotes, other_texts, without_notes}
use Rattle.noteless.proofs.Texts.{same_second, texts-reading}
use Rattle.noteless.proofs.Without.{without_edition, without_read}

module _ {s b : List ℕ} where
  pub notes_edition : ButForNotes s b → is_second b ≡ is_second s
  notes_edition (other_texts x) = same_second x
  notes_edition (without_notes r w) = without_edition w r

  -- whatever is made of a reading, and not of its number of notes
  pub notes_reading : ButForNotes s b → {A : Type 0} (f : Reading → A) → ((h : History) (n m : ℕ) → f (read h n) ≡ f (read h m)) → f (reading b) ≡ f (reading s)
  notes_reading (other_texts x) f any = ap f (texts-reading x)
  notes_reading (without_notes {h} r w) f any = rw (read_has r, (reads_iff b h 0).1 (without_read w r)) (any h 0 r.notes)

  module _ (x : ButForNotes s b) where
    -- judging gives the same answer and fills the buffers with the same bytes
    pub notes_judged : (level : ℕ) (fs ps os : List ℕ) → judged b level fs ps os ≡ judged s level fs ps os
    unfolding judged judged_read
    notes_judged level fs ps os = rw (notes_reading x (λ (r : Reading). judged_read r level fs ps os) (λ h n m. refl))

    -- the same is printed
    pub notes_printed : answer_text b ≡ answer_text s
    unfolding answer_text reading_text
    notes_printed = notes_reading x reading_text (λ h n m. refl)

    -- there are the same steps
    pub notes_stepped : (o : List ℕ) → stepped b o ≡ stepped s o
    unfolding stepped steps_read
    notes_stepped o = rw (notes_edition x) (ap (λ (w : Work). into w o) (notes_reading x (steps_read (is_second s)) (λ h n m. refl)))
