-- What is written is read: record by record, into the history that the steps grew, in either edition.
use Prim.Native.Nat.{ℕ, ◌+◌, ◌%◌, ◌^◌, ◌<◌, ◌≤◌}
use mathlib.Core.Path.{◌≡◌, refl, ap, sym, ◌∙◌}
use mathlib.Core.Bool.{Bool, true, false}
use mathlib.Core.List.{List, [], ◌∷◌, ◌++◌, map, append_assoc, append-nil}
use native.Mathlib.Omega.{arith}
use lib.ListN.{length, length-append}
use Rattle.base.specs.Base.{first_fit}
use Rattle.rules.specs.History.{History, tx, tx_count, current, empty}
use Rattle.rules.specs.Records.{is_second}
use Rattle.rules.specs.Reading.{State, step_rows, misplaced, unlawful, excess, repeats, mixes, entered, notes_behind, met, after}
use Rattle.rules.specs.Traces.{record_of, trace}
use Rattle.rules.specs.declared.Event.{Event}
use Rattle.rules.specs.declared.Event.TheVariants.{Open, Read, Write, Close, End, Other, Note}
use Rattle.rules.proofs.Traces.{record_length, serial_from, serial_below, serial-next}
use Rattle.demand1.specs.Rows.{behind, Passes, Reaches, start, on, ReadInto, to_the_end}
use Rattle.demand1.proofs.Steps.{next-after}
use Rattle.writing.specs.Writing.{item_of, trace_of, good, follow, end_no}
use Rattle.writing.specs.Listing.{history_steps}
use Rattle.writing.specs.Forms.{Marked, mark, item_with, item_in, preamble, whole_of}
use Rattle.writing.proofs.Rows.{Taken, open_taken, read_taken, write_taken, close_taken, taken_rows, end_clear}
use Rattle.writing.proofs.Grown.{Grown, grown_none, grown_step, counts}
use Rattle.writing.proofs.Followed.{followed}
use Rattle.writing.proofs.Told.{told}
use Rattle.writing.proofs.Marks.{session_after, session_past}
use Rattle.written.proofs.Records.{Narrow, narrow_end, FitsRecord, fits_event, fits_edition, Owned, owned_read, owned_write, owned_close, end_item, same_kind, no_edition, Here, here}
use Rattle.writing.proofs.Lengths.{items_split, items_more}
use Rattle.writing.proofs.Sizes.{whole_length}
use Rattle.written.proofs.Whole.{lead, lead-none, lead_more, whole-lead, first-whole, wanted_edition}
use Rattle.written.proofs.Framed.{later_none, framed_passes}
use Rattle.written.proofs.Meets.{Lone, lone, latest-session, met-current}
use Rattle.written.proofs.Slim.{EachSlim, slim_front, slim_at, slim_session, slim_sessions, narrow}
use Rattle.rules.proofs.Singles.{Singles}
use Rattle.written.proofs.Singles.{grown_singles, narrow_unmixed}

-- a step that is taken is no end and no note
pub not_end : {h : History} (e : Event) → Taken h e → (item_of e).kind < 5
unfolding item_of
not_end (Open s) t = omega arith
not_end (Read x v) t = omega arith
not_end (Write x v) t = omega arith
not_end (Close c) t = omega arith
not_end {h = h} (End _) t = elim t [ ]
not_end {h = h} Note t = elim t [ ]
not_end {h = h} Other t = elim t [ ]

no_note : {h : History} (n : ℕ) (e : Event) → Taken h e → notes_behind n e ≡ n
unfolding notes_behind
no_note n (Open s) t = refl
no_note n (Read x v) t = refl
no_note n (Write x v) t = refl
no_note n (Close c) t = refl
no_note {h = h} n (End _) t = elim t [ ]
no_note {h = h} n Note t = elim t [ ]
no_note {h = h} n Other t = elim t [ ]

-- inside a transaction it is of the open one, and of its session
taken_owned : {h : History} {e : Event} → Taken h e → 0 < current h → Owned e
taken_owned (open_taken z l) c = absurd (omega (arith, c, z))
taken_owned (read_taken p l) c = owned_read
taken_owned (write_taken p q l w) c = owned_write
taken_owned (close_taken p l) c = owned_close

owned_keeps : (n : ℕ) {e : Event} → Owned e → session_after n e ≡ n
unfolding session_after
owned_keeps n owned_read = refl
owned_keeps n owned_write = refl
owned_keeps n owned_close = refl

-- rows 7 to 10 pass the record that says the edition
edition-rows : (h : History) (t : ℕ) → first_fit (step_rows h t Other) ≡ 0
unfolding step_rows misplaced unlawful excess repeats first_fit
edition-rows h t = refl

-- ── one record ──

module _ (second : Bool) (n : ℕ) (low : n < 2 ^ 32) (b : List ℕ) (own : is_second b ≡ second) where
  -- behind these bytes: where the next record starts, the serial that has to come, the history so far
  abbrev state_behind : List ℕ → ℕ → History → State
  state_behind front next h = record { at = length front; serial = next; history = h; notes = 0 }

  -- reading comes there, behind k records
  record Behind (front : List ℕ) (k : ℕ) (h : History) : Type 0 where
    pub next : ℕ
    pub follows : 0 < length front → next ≡ serial_from n k
    pub reaches : Reaches b (state_behind front next h)

  -- the record of x comes next
  module _ (front : List ℕ) (k : ℕ) (x : Marked) (back : List ℕ) (w : FitsRecord second x) (is : b ≡ front ++ (record_of (serial_from n k) (item_in second x) ++ back)) where
    pub is_here : Here second b (length front) (serial_from n k) x
    is_here = rw is (here second front (serial_from n k) back (serial_below n k low) (rw is at own) w)

    pub ends_here : behind b (length front) ≡ length (front ++ record_of (serial_from n k) (item_in second x))
    ends_here = omega (arith, is_here.len_is, length-append front (record_of (serial_from n k) (item_in second x)), record_length (serial_from n k) (item_in second x))

    -- no row refuses it where rows 7 to 10 do not, nor row 17
    passes : (next : ℕ) (h : History) (t : ℕ) → (0 < length front → next ≡ serial_from n k) → ((item_in second x).kind ≡ 16 → length front ≡ 0) → met b (state_behind front next h) ≡ t
        → first_fit (step_rows h t x.event) ≡ 0 → mixes h x.event ≡ false → Passes b (state_behind front next h)
    passes next h t f g m z u =
        framed_passes b (state_behind front next h) is_here.framed (λ l. is_here.serial_is ∙ sym (f l))
        (λ q. (g (sym is_here.kind_is ∙ q), is_here.edition_is q)) (rw (m, is_here.event_is) (later_none h t x.event z u))

    -- the state behind it
    after_is : (next : ℕ) (h : History) (t : ℕ) → met b (state_behind front next h) ≡ t → notes_behind 0 x.event ≡ 0
        → after b (state_behind front next h) ≡ state_behind (front ++ record_of (serial_from n k) (item_in second x)) ((serial_from n k + 1) % 2 ^ 32) (entered h t x.event)
    unfolding after
    after_is next h t m e = rw (m, is_here.event_is, is_here.serial_is, ends_here, e)

    -- a record that is not the end
    on_record : {h : History} (r : Behind front k h) (t : ℕ) → ((item_in second x).kind ≡ 16 → length front ≡ 0) → met b (state_behind front r.next h) ≡ t
        → first_fit (step_rows h t x.event) ≡ 0 → mixes h x.event ≡ false → notes_behind 0 x.event ≡ 0 → ((item_in second x).kind ≡ 5 → ⊥)
        → Behind (front ++ record_of (serial_from n k) (item_in second x)) (k + 1) (entered h t x.event)
    on_record {h} r t g m z u e d =
        let p = passes r.next h t r.follows g m z u in
        record {
          next = (serial_from n k + 1) % 2 ^ 32;
          follows = λ _. sym (serial-next n k low);
          reaches = rw (← after_is r.next h t m e) (on r.reaches p (next-after b (state_behind front r.next h) p (λ q. d (sym is_here.kind_is ∙ q))));
        }

  -- a step that is taken, where m is the session before it
  on_step : (front : List ℕ) (k m : ℕ) (e : Event) (back : List ℕ) → session_after m e < 65536 → Narrow e
      → b ≡ front ++ (record_of (serial_from n k) (item_in second (mark (session_after m e) e)) ++ back) → {h : History} → Behind front k h → Singles h → Lone h
      → (0 < current h → (tx h (tx_count h)).session ≡ m) → Taken h e
      → Behind (front ++ record_of (serial_from n k) (item_in second (mark (session_after m e) e))) (k + 1) (entered h (current h) e)
  on_step front k m e back l w is {h} r i only s t =
      let x = mark (session_after m e) e in
      on_record front k x back (fits_event l w) is r (current h) (λ q. absurd (no_edition second x.session w q))
      (met-current b (state_behind front r.next h) only (λ y c. s c ∙ sym ((is_here front k x back (fits_event l w) is).session_is (sym own ∙ y) (taken_owned t c) ∙ owned_keeps m (taken_owned t c)))) (taken_rows h e t)
      (narrow_unmixed h i w) (no_note 0 e t) (λ q. omega (arith, q, same_kind second x.session w, not_end e t))

-- ── all of them ──

-- their bytes
abbrev leading : Bool → ℕ → List Event → List ℕ
leading second n es = trace n (map (item_in second) (lead second es))

-- "Edition 2 of the trace begins with a kind 16 record", which enters nothing
behind-preamble : (second : Bool) (n : ℕ) (low : n < 2 ^ 32) (b : List ℕ) (own : is_second b ≡ second) (rest : List Marked) → b ≡ trace n (map (item_in second) (preamble second ++ rest))
    → Behind second n low b own (trace n (map (item_in second) (preamble second))) (length (preamble second)) empty
unfolding preamble trace serial_from item_with mixes entered notes_behind
behind-preamble false n low b own rest is = record { next = 0; follows = λ l. absurd (omega arith); reaches = start }
behind-preamble true n low b own rest is =
    let r = record_of n (item_with 0 Other) in
    rw (append-nil r)
    (on_record true n low b own [] 0 (mark 0 Other) _ (fits_edition refl) is (record { next = 0; follows = λ l. absurd (omega arith); reaches = start }) _ (λ _. refl) refl (edition-rows empty _) refl refl
    (λ q. omega arith))

-- steps that have grown, with more behind them
behind-all : (second : Bool) (n : ℕ) (low : n < 2 ^ 32) (b : List ℕ) (own : is_second b ≡ second) {es : List Event} {h : History} → Grown es h → (rest : List Marked)
    → b ≡ trace n (map (item_in second) (lead second es ++ rest)) → EachSlim es → Behind second n low b own (leading second n es) (length (lead second es)) h
behind-all second n low b own grown_none rest is s = rw (lead-none second) (behind-preamble second n low b own rest (rw (lead-none second) at is))
behind-all second n low b own (grown_step {es} {h} e g t) rest is s =
    let m = session_past 0 es in
    let x = mark (session_after m e) e in
    let q : lead second (es ++ (e ∷ [])) ++ rest ≡ lead second es ++ (x ∷ rest) = rw (lead_more second es e) (append_assoc (lead second es) (x ∷ []) rest) in
    let y : b ≡ trace n (map (item_in second) (lead second es ++ (x ∷ rest))) = rw q at is in
    let a = slim_front es e s in
    let o = slim_at es e [] s in
    let r = behind-all second n low b own g (x ∷ rest) y a in
    rw (lead_more second es e, items_more (item_in second) n (lead second es) x, length-append (lead second es) (x ∷ []))
    (on_step second n low b own (leading second n es) (length (lead second es)) m e _ (slim_session (slim_sessions (omega arith) es a) e o) (narrow t o)
    (y ∙ items_split (item_in second) n (lead second es) x rest) r (grown_singles g a) (lone g) (latest-session g) t)

-- a history that has grown, as blocks in either edition, is read back, without notes
pub read-back_in : (second : Bool) (n : ℕ) → n < 2 ^ 32 → {g : History} → Grown (history_steps g) g → current g ≡ 0 → EachSlim (history_steps g)
    → ReadInto (trace n (map (item_in second) (whole_of second g))) g 0
unfolding end_no mixes
read-back_in second n low {g} x z s =
    let es = history_steps g in
    let c = counts x in
    let end = mark 0 (End (tx_count g)) in
    let b = trace n (map (item_in second) (whole_of second g)) in
    let own : is_second b ≡ second = wanted_edition second n g in
    let q : b ≡ trace n (map (item_in second) (lead second es ++ (end ∷ []))) = ap (λ l. trace n (map (item_in second) l)) (whole-lead second g) in
    let a = behind-all second n low b own x (end ∷ []) q s in
    let front = leading second n es in
    let k = length (lead second es) in
    let is = q ∙ items_split (item_in second) n (lead second es) end [] in
    let v : Narrow (End (tx_count g)) = narrow_end {n = tx_count g} (omega (arith, c.few_txs)) in
    let w : FitsRecord second end = fits_event {n = 0} (omega arith) v in
    to_the_end {st = state_behind second n low b own front a.next g} (few second) a.reaches
    (passes second n low b own front k end _ w is a.next g (current g) a.follows (λ e. absurd (no_edition second 0 v e)) (met-current b _ (lone x) (λ _ l. absurd (omega arith))) ((end_clear g).1 z) refl)
    ((is_here second n low b own front k end _ w is).kind_is ∙ ap (λ i. i.kind) (end_item 0 second (tx_count g)))
    (ends_here second n low b own front k end _ w is ∙ ap length (sym (q ∙ items_more (item_in second) n (lead second es) end)))
  where
    few : (second : Bool) → length (trace n (map (item_in second) (whole_of second g))) ≤ 32768
    few false = omega (arith, whole_length false n low g x z, (counts x).few_txs, (counts x).few_ops)
    few true = omega (arith, whole_length true n low g x z, (counts x).few_txs, (counts x).few_ops)

-- a good sequence is read back
pub read_back : (n : ℕ) → n < 2 ^ 32 → (es : List Event) (g : History) → follow empty 1 es ≡ good g → EachSlim es → ReadInto (trace_of n es g) g 0
read_back n low es g f s =
    let r = followed empty 1 es grown_none f in
    let t = told r.0 in
    rw (first-whole n g, t) at (read-back_in false n low (rw t r.0) r.1 (rw t s))
