-- A whole trace of either edition: its parts, and which edition it is.
use Prim.Native.Nat.{ℕ}
use mathlib.Core.Path.{◌≡◌, refl, ap, sym, ◌∙◌}
use mathlib.Core.Bool.{Bool, true, false}
use mathlib.Core.List.{List, [], ◌∷◌, ◌++◌, map, append_assoc, append-nil}
use native.Mathlib.Omega.{arith}
use Rattle.rules.specs.History.{History, tx_count}
use Rattle.rules.specs.Records.{is_second}
use Rattle.rules.specs.Traces.{trace}
use Rattle.rules.specs.declared.Event.{Event}
use Rattle.rules.specs.declared.Event.TheVariants.{End, Other}
use Rattle.writing.specs.Writing.{item_of, records_of, trace_of}
use Rattle.writing.specs.Listing.{history_steps}
use Rattle.writing.specs.Forms.{Marked, mark, item_with, item_in, preamble, whole_of}
use Rattle.writing.proofs.Lengths.{map_append}
use Rattle.writing.proofs.Marks.{session_after, session_past, marking, marking-none, marking_more, blocks_marked}
use Rattle.written.proofs.Records.{first_kind, first_edition}

-- ── its parts ──

-- what stands before the records of more steps
abbrev pub lead : Bool → List Event → List Marked
lead second es = preamble second ++ marking 0 es

pub lead-none : (second : Bool) → lead second [] ≡ preamble second
lead-none second = rw (marking-none 0) (append-nil (preamble second))

pub lead_more : (second : Bool) (es : List Event) (e : Event) → lead second (es ++ (e ∷ [])) ≡ lead second es ++ (mark (session_after (session_past 0 es) e) e ∷ [])
lead_more second es e = ap (λ l. preamble second ++ l) (marking_more 0 es e) ∙ sym (append_assoc (preamble second) (marking 0 es) _)

-- all, and the end
pub whole-lead : (second : Bool) (g : History) → whole_of second g ≡ lead second (history_steps g) ++ (mark 0 (End (tx_count g)) ∷ [])
unfolding whole_of
whole-lead second g = rw (blocks_marked g) (sym (append_assoc (preamble second) (marking 0 (history_steps g)) (mark 0 (End (tx_count g)) ∷ [])))

-- in edition 1 sessions do not count
marks_first : (n : ℕ) (es : List Event) → map (item_in false) (marking n es) ≡ map item_of es
unfolding marking
marks_first n [] = refl
marks_first n (e ∷ es) = ap (λ l. item_of e ∷ l) (marks_first (session_after n e) es)

pub first-whole : (n : ℕ) (g : History) → trace n (map (item_in false) (whole_of false g)) ≡ trace_of n (history_steps g) g
unfolding records_of preamble
first-whole n g =
    let es = history_steps g in
    let end = End (tx_count g) in
    ap (trace n)
    (ap (map (item_in false)) (whole-lead false g) ∙ map_append (item_in false) (marking 0 es) (mark 0 end ∷ []) ∙ rw (marks_first 0 es) (sym (map_append item_of es (end ∷ []))))

-- ── its edition ──

pub wanted_edition : (second : Bool) (n : ℕ) (g : History) → is_second (trace n (map (item_in second) (whole_of second g))) ≡ second
unfolding whole_of preamble item_with
wanted_edition true n g = first_kind n (item_with 0 Other) _ (omega arith)
wanted_edition false n g = ap is_second (first-whole n g) ∙ first_edition n (history_steps g ++ (End (tx_count g) ∷ []))
