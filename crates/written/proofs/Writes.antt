-- The definition's outcome is what is promised of writing, and the promise leaves one.
use Prim.Native.Nat.{ℕ, ◌+◌, ◌*◌, ◌%◌, ◌^◌, ◌<◌, ◌≤◌}
use mathlib.Core.Path.{◌≡◌, refl, ap, sym, ◌∙◌}
use mathlib.Core.Bool.{false}
use mathlib.Core.List.{List, [], ◌∷◌, ◌++◌}
use mathlib.Core.Logic.{⊎_elim, ◌↔◌}
use native.Mathlib.Omega.{arith}
use lib.ListN.{length, get_or, length-append, get_or-append}
use lib.Seq.{get_or_at}
use Rattle.base.proofs.Tests.{split}
use Rattle.base.proofs.Searches.{singles_length, singles_at}
use Rattle.rules.specs.History.{History, tx_count, empty}
use Rattle.rules.specs.declared.Event.{Event}
use Rattle.rules.specs.declared.Event.TheVariants.{End, Other}
use Rattle.demand1.specs.Rows.{serial, number_of}
use Rattle.writing.specs.Filling.{refusing, said, fill_of, Filled}
use Rattle.writing.specs.Steps.{step_at, step_count, steps_from, steps_in}
use Rattle.writing.specs.Writing.{Followed, good, follow, item_of, records_of, trace_of, written}
use Rattle.writing.specs.Forms.{mark}
use Rattle.writing.proofs.Grown.{Grown, grown_none, counts}
use Rattle.writing.proofs.Followed.{followed}
use Rattle.written.specs.Declined.{trace_length, WriteDeclines, bad_step, ends_inside, trace_short}
use Rattle.written.specs.Writes.{AllBytes, record_at, IsStepRecord, IsEndRecord, TraceOf, WritesTrace}
use Rattle.written.proofs.Records.{Narrow, narrow_end, FitsRecord, fits_event, Here, first_edition}
use Rattle.written.proofs.Slim.{slim_steps}
use Rattle.written.proofs.Readback.{read_back}
use Rattle.written.proofs.Serials.{EachNarrow, record_here, records_end, grown_narrow, each_last}
use Rattle.written.proofs.Fields.{step-fields, end_fields}
use Rattle.written.proofs.Says.{says, says_one}
use Rattle.written.proofs.Bytes.{records_bytes}
use Rattle.written.proofs.Retold.{own-bytes}
use Rattle.written.proofs.Declined.{written-fits, declined_is}
use Rattle.written.proofs.Comes.{Ends, at_step, inside, outside, ends}
use Rattle.written.proofs.Fills.{CameOut, declining, putting, declines_iff, fills, fills_one}

-- ── what is written is read ──

module _ (s : List ℕ) (b : AllBytes s) (n : ℕ) (low : n < 2 ^ 32) (h : History) (f : follow empty 1 (steps_in s) ≡ good h) where
  grown : Grown (steps_in s) h
  grown = (followed empty 1 (steps_in s) grown_none f).0

  count : length (steps_in s) ≡ step_count s
  unfolding steps_from
  count = singles_length (λ i. step_at s (16 * i)) 0 (step_count s) ∙ omega arith

  step_is : (k : ℕ) → k < step_count s → get_or (steps_in s) k Other ≡ step_at s (16 * k)
  unfolding steps_from
  step_is k l = singles_at (λ i. step_at s (16 * i)) Other 0 (step_count s) k (omega arith) ∙ ap (λ (i : ℕ). step_at s (16 * i)) (omega arith)

  -- all, and the end
  abbrev es : List Event
  es = steps_in s ++ (End (tx_count h) ∷ [])

  all : EachNarrow es
  all = each_last Narrow Other (steps_in s) (End (tx_count h)) (grown_narrow grown (slim_steps s b)) (narrow_end {n = tx_count h} (omega (arith, (counts grown).few_txs)))

  more : length es ≡ step_count s + 1
  more = length-append (steps_in s) (End (tx_count h) ∷ []) ∙ rw count

  each : (k : ℕ) → k < length es → FitsRecord false (mark 0 (get_or es k Other))
  each k l = fits_event {n = 0} (omega arith) (all k l)

  record_is : (k : ℕ) → k ≤ step_count s → Here false (records_of n es) (record_at (records_of n es) k) ((n + k) % 2 ^ 32) (mark 0 (get_or es k Other))
  unfolding records_of
  record_is k l = record_here false (mark 0) Other n low es each (records_of n es) (first_edition n es) refl k (omega (arith, more))

  -- the record of a step, and the end
  step_record : (k : ℕ) → k < step_count s → IsStepRecord (records_of n es) (record_at (records_of n es) k) s k
  step_record k l =
      let r = record_is k (omega arith) in
      let g : get_or es k Other ≡ step_at s (16 * k) = get_or-append (steps_in s) (End (tx_count h) ∷ []) Other k (omega (arith, count)) ∙ step_is k l in
      step-fields (records_of n es) (record_at (records_of n es) k) r.framed s k h (rw g at (all k (omega (arith, more)))) (r.kind_is ∙ ap (λ (e : Event). (item_of e).kind) g) (r.event_is ∙ g)

  ended : IsEndRecord (records_of n es) (record_at (records_of n es) (step_count s)) (tx_count h)
  unfolding item_of
  ended =
      let r = record_is (step_count s) (omega arith) in
      let g : get_or es (step_count s) Other ≡ End (tx_count h) = get_or_at (steps_in s) (End (tx_count h)) [] Other (step_count s) count in
      end_fields (records_of n es) (record_at (records_of n es) (step_count s)) r.framed (tx_count h) (r.kind_is ∙ ap (λ (e : Event). (item_of e).kind) g) (r.event_is ∙ g)

  no_more : record_at (records_of n es) (step_count s + 1) ≡ length (records_of n es)
  unfolding records_of
  no_more = rw (← more) (records_end false (mark 0) Other n low es each (records_of n es) (first_edition n es) refl)

  pub trace_of_lem : TraceOf s n (trace_of n (steps_in s) h)
  trace_of_lem =
      record {
        is_bytes = records_bytes n es;
        first_edition = first_edition n es;
        history = h;
        reads = read_back n low (steps_in s) h f (slim_steps s b);
        says = says grown (followed empty 1 (steps_in s) grown_none f).1;
        serials = λ k l. (record_is k l).serial_is;
        step_records = step_record;
        end_record = ended;
        no_more = no_more;
      }

-- ── the promise ──

module _ (s : List ℕ) (b : AllBytes s) (n : ℕ) (low : n < 2 ^ 32) (o : List ℕ) where
  abbrev Out : Type 0
  Out = CameOut (WriteDeclines s (length o)) (TraceOf s n) o (written s n o) (declined_is s n o)

  -- what comes out, by how the steps end
  pub out : Out
  out = by (ends s) refl
    where
      by : {f : Followed} → Ends s f → follow empty 1 (steps_in s) ≡ f → Out
      by (at_step {k} {c = c} x l f) e = declining (number_of c) (k + 1) (bad_step x l f)
      by (inside {k} x l i) e = declining 7 (k + 1) (ends_inside x l i)
      by (outside {h = h} x l d) e =
          ⊎_elim (λ m. declining 16 (trace_length h) (trace_short x l d m)) (λ g. putting (trace_of n (steps_in s) h) (trace_of_lem s b n low h e) (written-fits s n o e g))
          (split (length o) (trace_length h))

  -- refused exactly if a step's row or the end's row says so, or, after all of them, the buffer is too short
  pub write_declines_iff : (m p : ℕ) → ((written s n o).answer ≡ refusing m p) ↔ WriteDeclines s (length o) m p
  write_declines_iff = declines_iff (WriteDeclines s (length o)) (TraceOf s n) o (written s n o) (declined_is s n o) out

  -- any answer and content that the contract admits
  pub writes : (r : Filled) (c : List ℕ) → fill_of (said r) c ≡ written s n o → WritesTrace s n o r c
  writes = fills (WriteDeclines s (length o)) (TraceOf s n) o (written s n o) (declined_is s n o) out

-- ── one outcome ──

-- the trace of steps is one
pub trace_one : {s : List ℕ} {n : ℕ} (x y : List ℕ) → TraceOf s n x → TraceOf s n y → x ≡ y
unfolding record_at
trace_one {s} {n} x y a b =
    let h : a.history ≡ b.history = says_one a.says b.says in
    let first : serial x 0 ≡ serial y 0 = a.serials 0 (omega arith) ∙ sym (b.serials 0 (omega arith)) in
    sym (own-bytes x a.is_bytes a.first_edition a.reads) ∙ rw (first, h) (own-bytes y b.is_bytes b.first_edition b.reads)

-- any two outcomes that the promise admits coincide
pub writes_one : {s : List ℕ} {n : ℕ} {o : List ℕ} {r q : Filled} {c d : List ℕ} → WritesTrace s n o r c → WritesTrace s n o q d → (said r ≡ said q) × (c ≡ d)
writes_one x y = fills_one trace_one x y
