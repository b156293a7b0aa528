-- What is moved is what the request says: it is read, in the wanted edition, record by record.
use Prim.Native.Nat.{ℕ, ◌^◌, ◌<◌}
use mathlib.Core.Path.{◌≡◌, ap, sym, ◌∙◌}
use mathlib.Core.Bool.{Bool, true, false}
use mathlib.Core.List.{List, [], ◌∷◌, ◌++◌, map}
use native.Mathlib.Omega.{arith}
use lib.ListN.{length}
use Rattle.base.proofs.Tests.{is_false}
use Rattle.rules.specs.History.{History, Op, tx_count}
use Rattle.rules.specs.Records.{is_second}
use Rattle.rules.specs.Traces.{trace}
use Rattle.rules.specs.declared.Event.TheVariants.{End}
use Rattle.demand1.specs.Lawful.{LawfulHistory}
use Rattle.demand1.specs.Rows.{serial, ReadInto, HasHistory}
use Rattle.demand1.proofs.Lawful.{lawful_history}
use Rattle.demand1.proofs.Readings.{has_history}
use Rattle.writing.specs.Listing.{history_steps}
use Rattle.writing.specs.Forms.{mark, item_in, preamble, whole_of}
use Rattle.writing.proofs.Grown.{Grown}
use Rattle.writing.proofs.Listed.{read_grown}
use Rattle.writing.proofs.Sizes.{whole_length}
use Rattle.writing.proofs.Marks as marks
use Rattle.written.specs.Writes.{AllBytes}
use Rattle.written.proofs.Slim.{EachSlim, le_below}
use Rattle.written.proofs.Small.{first_single, slim_read, read_singles}
use Rattle.written.proofs.Whole.{wanted_edition}
use Rattle.written.proofs.Readback.{read-back_in}
use Rattle.moving.specs.Moving.{moved_trace}
use Rattle.moving.specs.Renumbering.{as_blocks}
use Rattle.moving.proofs.Renumbered.{blocks_count, in_turn}
use Rattle.moving.proofs.Grown.{blocks_grown, blocks_over, blocks_told, already_blocks}
use Rattle.moved.specs.Moved.{Moved, moved_length, NoLists}
use Rattle.moved.proofs.Renumbered.{renumbers}
use Rattle.moved.proofs.Records.{records_are}
use Rattle.moved.proofs.Lists.{lists_second, list_held, no_lists_single}

module _ (second : Bool) (s : List ℕ) (b : AllBytes s) {h : History} (r : HasHistory s h) where
  lawful : LawfulHistory h
  lawful = lawful_history r

  low : serial s 0 < 2 ^ 32
  low = le_below 4 s 4 b

  -- ── its steps, which are those of the blocks ──

  grown : Grown (history_steps (as_blocks h)) (as_blocks h)
  grown = rw (blocks_told lawful) (blocks_grown lawful)

  slim : NoLists s → EachSlim (history_steps (as_blocks h))
  slim u = rw (blocks_told lawful) (slim_read s b (no_lists_single u) r)

  same_whole : whole_of second (as_blocks h) ≡ whole_of second h
  unfolding whole_of as_blocks
  same_whole = ap (λ l. preamble second ++ (l ++ (mark 0 (End (tx_count h)) ∷ []))) (marks.blocks_told h (as_blocks h) (blocks_told lawful))

  -- ── the trace ──

  moved_as : moved_trace second (serial s 0) h ≡ trace (serial s 0) (map (item_in second) (whole_of second (as_blocks h)))
  unfolding moved_trace
  moved_as = rw same_whole

  moved-read : NoLists s → ReadInto (moved_trace second (serial s 0) h) (as_blocks h) 0
  moved-read u = rw moved_as (read-back_in second (serial s 0) low grown (blocks_over lawful) (slim u))

  pub moved_length_lem : length (moved_trace second (serial s 0) h) ≡ moved_length second h
  unfolding moved_trace as_blocks
  moved_length_lem = by second
    where
      by : (second : Bool) → length (trace (serial s 0) (map (item_in second) (whole_of second h))) ≡ moved_length second h
      by false = omega (arith, whole_length false (serial s 0) low h (blocks_grown lawful) (blocks_over lawful), blocks_count lawful)
      by true = omega (arith, whole_length true (serial s 0) low h (blocks_grown lawful) (blocks_over lawful), blocks_count lawful)

  -- a trace that is moved to edition 2 is of edition 1, whose transactions are blocks
  same_history : (is_second s ≡ second → ⊥) → second ≡ true → as_blocks h ≡ h
  same_history d e = already_blocks lawful (read_grown (is_false (is_second s) (λ t. d (t ∙ sym e))) r).0

  pub is-moved : (is_second s ≡ second → ⊥) → NoLists s → Moved second s (moved_trace second (serial s 0) h)
  is-moved d u =
      record {
        history = h;
        reads = r;
        wanted = rw moved_as (wanted_edition second (serial s 0) (as_blocks h));
        moved_history = as_blocks h;
        moved_reads = moved-read u;
        records = rw (moved_as, ← same_whole) (records_are second (serial s 0) low grown (slim u));
        in_blocks = record { renumbers = renumbers lawful; in_turn = in_turn lawful };
        same_history = same_history d;
      }

-- what was moved has no lists: as blocks the operation that one is held as would stand in a trace of edition 1, which has no such key
pub moved_no_lists : {second : Bool} {s c : List ℕ} → (is_second s ≡ second → ⊥) → Moved second s c → NoLists s
moved_no_lists {second} d m k i =
    let first : second ≡ false = is_false second (λ t. d (lists_second i.of_lists ∙ sym t)) in
    let x = list_held m.reads k i in
    let n = m.in_blocks.renumbers in
    let o = n.to_op x.by x.is_op in
    let l = read_singles _ m.records.is_bytes (first_single (m.wanted ∙ first)) (has_history m.moved_reads) _ o.from o.to in
    omega (arith, x.of_lists, ap (λ (y : Op). y.key) (n.same_op x.by x.is_op))
