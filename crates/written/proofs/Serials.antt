-- One record for each of a list: where it stands, its serial and its event, in either edition.
use Prim.Native.Nat.{ℕ, zero, suc, ◌+◌, ◌%◌, ◌^◌, ◌<◌, ◌≤◌}
use mathlib.Core.Path.{◌≡◌, refl, ap, sym, ◌∙◌}
use mathlib.Core.Bool.{Bool, true, false}
use mathlib.Core.List.{List, [], ◌∷◌, ◌++◌, map}
use mathlib.Core.Logic.{⊎_elim}
use native.Mathlib.Omega.{arith}
use lib.ListN.{length, get_or, take, drop, length-append, get_or-append}
use lib.Seq.{length-take-le, take-suc, take-length, split_at, get_or-append_seam}
use Rattle.base.proofs.Tests.{split}
use Rattle.rules.specs.History.{History, tx_count}
use Rattle.rules.specs.Records.{is_second}
use Rattle.rules.specs.Traces.{Item, record_of, trace}
use Rattle.rules.specs.declared.Event.{Event}
use Rattle.rules.specs.declared.Event.TheVariants.{Note, Other}
use Rattle.rules.proofs.Traces.{serial_from, serial_is}
use Rattle.writing.specs.Listing.{history_steps}
use Rattle.writing.specs.Forms.{Marked, mark, item_in, preamble, whole_of}
use Rattle.writing.proofs.Grown.{Grown, grown_none, grown_step, counts}
use Rattle.written.specs.Writes.{record_at}
use Rattle.written.proofs.Records.{Narrow, narrow_end, FitsRecord, fits_event, fits_edition, Here}
use Rattle.written.proofs.Slim.{EachSlim, slim_front, slim_at, slim_session, slim_sessions, narrow}
use Rattle.writing.proofs.Lengths.{items_split, items_more}
use Rattle.written.proofs.Whole.{lead, lead-none, lead_more, whole-lead}
use Rattle.written.proofs.Readback.{is_here, ends_here}

-- each entry of a list
abbrev pub Each : {A : Type 0} → (A → Type 0) → A → List A → Type 0
Each P d xs = (k : ℕ) → k < length xs → P (get_or xs k d)

-- the events of a whole trace, each of which fits
abbrev pub EachNarrow : List Event → Type 0
EachNarrow = Each Narrow Other

abbrev pub EachFits : Bool → List Marked → Type 0
EachFits second = Each (FitsRecord second) (mark 0 Note)

-- b has a record for each of xs, marked so, and all of them fit
module _ {A : Type 0} (second : Bool) (m : A → Marked) (d : A) (n : ℕ) (low : n < 2 ^ 32) (xs : List A) (all : (k : ℕ) → k < length xs → FitsRecord second (m (get_or xs k d)))
    (b : List ℕ) (own : is_second b ≡ second) (whole : b ≡ trace n (map (λ x. item_in second (m x)) xs)) where
  abbrev item_for : A → Item
  item_for x = item_in second (m x)

  -- those before the one that stands behind k others, and those behind it
  module _ (k : ℕ) where
    abbrev front : List ℕ
    front = trace n (map item_for (take k xs))

    abbrev back : List ℕ
    back = trace ((serial_from n k + 1) % 2 ^ 32) (map item_for (drop (suc k) xs))

    is : k < length xs → b ≡ front ++ (record_of (serial_from n k) (item_for (get_or xs k d)) ++ back)
    is l = whole ∙ ap (λ y. trace n (map item_for y)) (split_at xs k d l) ∙ items_split item_for n (take k xs) (get_or xs k d) (drop (suc k) xs)
        ∙ rw (length-take-le k xs (omega arith))

    front_more : k < length xs → trace n (map item_for (take (suc k) xs)) ≡ front ++ record_of (serial_from n k) (item_for (get_or xs k d))
    front_more l = ap (λ y. trace n (map item_for y)) (take-suc xs k d l) ∙ items_more item_for n (take k xs) (get_or xs k d) ∙ rw (length-take-le k xs (omega arith))

  -- where it starts
  record_place : (k : ℕ) → k ≤ length xs → record_at b k ≡ length (front k)
  unfolding record_at trace
  record_place zero l = refl
  record_place (suc k) l =
      let h : k < length xs = omega arith in
      rw (record_place k (omega arith), front_more k h) (ends_here second n low b own (front k) k (m (get_or xs k d)) (back k) (all k h) (is k h))

  -- what stands there, with its serial
  pub record_here : (k : ℕ) → k < length xs → Here second b (record_at b k) ((n + k) % 2 ^ 32) (m (get_or xs k d))
  record_here k l = rw (record_place k (omega arith), ← serial_is n k low) (is_here second n low b own (front k) k (m (get_or xs k d)) (back k) (all k l) (is k l))

  -- behind the last one the trace ends
  pub records_end : record_at b (length xs) ≡ length b
  records_end = record_place (length xs) (omega arith) ∙ rw (take-length xs) (ap length (sym whole))

-- one more
pub each_last : {A : Type 0} (P : A → Type 0) (d : A) (xs : List A) (x : A) → Each P d xs → P x → Each P d (xs ++ (x ∷ []))
each_last P d xs x all w k l =
    ⊎_elim (λ a. rw (get_or-append xs (x ∷ []) d k a) (all k a))
    (λ a. let q : k ≡ length xs = omega (arith, length-append xs (x ∷ [])) in rw (q, get_or-append_seam xs x [] d) w) (split k (length xs))

-- the steps that have grown fit
pub grown_narrow : {es : List Event} {h : History} → Grown es h → EachSlim es → EachNarrow es
grown_narrow grown_none s k l = absurd (omega arith)
grown_narrow (grown_step {es} e g t) s k l = each_last Narrow Other es e (λ j m. grown_narrow g (slim_front es e s) j m) (narrow t (slim_at es e [] s)) k l

-- .. with their sessions, behind what the edition begins with
preamble-fits : (second : Bool) → EachFits second (preamble second)
unfolding preamble
preamble-fits false k l = absurd (omega arith)
preamble-fits true k l = let z : k ≡ 0 = omega arith in rw z (fits_edition refl)

lead-fits : (second : Bool) {es : List Event} {h : History} → Grown es h → EachSlim es → EachFits second (lead second es)
lead-fits second grown_none s = rw (lead-none second) (preamble-fits second)
lead-fits second (grown_step {es} e g t) s =
    let a = slim_front es e s in
    let o = slim_at es e [] s in
    rw (lead_more second es e)
    (each_last (FitsRecord second) (mark 0 Note) (lead second es) _ (lead-fits second g a) (fits_event (slim_session (slim_sessions (omega arith) es a) e o) (narrow t o)))

-- .. and with the end
pub whole-fits : (second : Bool) {g : History} → Grown (history_steps g) g → EachSlim (history_steps g) → EachFits second (whole_of second g)
whole-fits second {g} x s =
    rw (whole-lead second g)
    (each_last (FitsRecord second) (mark 0 Note) (lead second (history_steps g)) _ (lead-fits second x s) (fits_event {n = 0} (omega arith) (narrow_end {n = tx_count g} (omega (arith, (counts x).few_txs)))))
