-- The whole call: a trace that is refused, and one that was read.
use Prim.Native.Nat.{ℕ, ◌+◌, ◌*◌, ◌≤◌}
use mathlib.Core.Path.{◌≡◌, ap, sym, ◌∙◌}
use mathlib.Core.Bool.{Bool, true, false}
use mathlib.Core.List.{List}
use native.Mathlib.Omega.{arith}
use lib.ListN.{length}
use borrow.Author.Tests.{ne_eqb}
use Rattle.std.specs.Prelude.{Result, Ok, Err}
use Rattle.base.proofs.Fill.{Appended}
use Rattle.rules.specs.History.{History, tx, tx_count, op_count, is_open}
use Rattle.rules.specs.Records.{is_second}
use Rattle.rules.specs.Reading.{read, reading}
use Rattle.rules.specs.Refusals.{refusal_at}
use Rattle.rules.specs.declared.Cause.TheVariants.{Kind}
use Rattle.rules.specs.declared.Refusal.{Refusal}
use Rattle.rules.proofs.Singles.{ReadsSingle}
use Rattle.demand1.proofs.Readings.{has_read}
use Rattle.demand1.proofs.Lawful.{over_most, lawful_history}
use Rattle.table.specs.Table.{history_of}
use Rattle.trace.specs.Trace.{TraceRead}
use Rattle.trace.proofs.Answers.{read_bad, read_good}
use Rattle.writing.specs.declared.Form.TheVariants.{Step}
use Rattle.writing.specs.Filling.{Said, said, content, fill_of, into}
use Rattle.writing.specs.Listing.{stepped}
use Rattle.writing.specs.Forms.{blocks_of}
use Rattle.writing.proofs.Grown.{counts, open_none}
use Rattle.writing.proofs.Forms.{blocks_length, blocks_steps}
use Rattle.writing.proofs.Listing.{listed_refused, listed-second, listed-first}
use Rattle.writing.proofs.Listed.{read_grown, listing-length}
use Rattle.blocks.specs.declared.Place.{Place}
use Rattle.blocks.specs.Blocks.{PutBefore, RoomBefore}
use Rattle.lister.specs.Lister.{all_bytes, Listable}

-- ── the steps of a history, in a buffer that has room ──

module _ {h : History} (w : Listable h) {n k : ℕ} (q : k ≡ 2 * tx_count h + op_count h) (e : n ≡ 16 * k) where
  as_long : n ≡ length (all_bytes h)
  as_long = omega (arith, w.long)

  pub steps-room : {out : List ℕ} → n ≤ length out → RoomBefore Step out (record { at = n; count = k }) (blocks_of h)
  steps-room l =
      record {
        fits = omega (arith, ap length (blocks_steps 0 0 h), as_long);
        within = l;
        count = omega (arith, blocks_length h, w.many);
      }

  -- they start at 0
  pub steps-put : {m : ℕ} {out b : List ℕ} {r : Place} → PutBefore Step m out (record { at = n; count = k }) b r (blocks_of h) → Appended out 0 b n (all_bytes h)
  steps-put {m} {r = r} x =
      let y = rw (blocks_steps m r.count h) at x.is in
      let z : r.at ≡ 0 = omega (arith, y.end, as_long) in
      rw z at y

-- ── the trace's reading ──

listable : (s : List ℕ) → is_second s ≡ false → {h : History} {notes : ℕ} → ReadsSingle h → reading s ≡ read h notes → Listable h
unfolding is_open
listable s first {h} k e =
    let r = has_read e in
    let w = lawful_history r in
    record {
      none_open = λ t a b. ne_eqb (tx h t).status 3 (λ i. omega (arith, over_most (w.is_over t (record { from = a; to = b }))));
      reads = k;
      many = let g = read_grown first r in omega (arith, (counts g.0).steps, open_none h g.1);
      long = listing-length s first r;
    }

module _ {s g g₀ : List ℕ} {r : Result ℕ Refusal} (x : TraceRead r g g₀ s) where
  pub call_refused : {d : Refusal} → r ≡ Err d → (out : List ℕ) → fill_of (said (Err d)) out ≡ stepped s out
  unfolding said
  call_refused q out = sym (listed_refused s out (read_bad x q))

  -- one that was read, whose edition is told by b
  module _ {n : ℕ} (q : r ≡ Ok n) {b : Bool} (e : b ≡ is_second s) where
    pub call_second : b ≡ true → (out : List ℕ) → fill_of (said (Err (refusal_at Kind 0))) out ≡ stepped s out
    unfolding said
    call_second t out = sym (listed-second s out (read_good x q) (sym e ∙ t))

    pub call_listable : b ≡ false → Listable (history_of g)
    call_listable t = listable s (sym e ∙ t) x.reads (read_good x q)

    pub call_first : b ≡ false → {v : Said} (out : List ℕ) {out2 : List ℕ} → fill_of v out2 ≡ into (content (all_bytes (history_of g))) out → fill_of v out2 ≡ stepped s out
    call_first t out d = d ∙ sym (listed-first s out (read_good x q) (sym e ∙ t))
