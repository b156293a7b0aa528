-- The calls that put a text or fill a buffer, on two traces that differ only in their notes.
use Prim.Native.Nat.{ℕ}
use mathlib.Core.Path.{◌≡◌, ap, sym, ◌∙◌}
use mathlib.Core.Bool.{false}
use mathlib.Core.List.{List}
use lib.ListN.{length}
use Rattle.writing.specs.Filling.{Fill, fill_of, said}
use Rattle.writing.specs.Listing.{stepped}
use Rattle.writing.specs.Rewriting.{rewritten_whole}
use Rattle.writing.specs.Filling.{Filled}
use Rattle.writing.proofs.Filling.{said_one}
use Rattle.written.specs.Writes.{AllBytes}
use Rattle.written.proofs.Lists.{lists}
use Rattle.written.proofs.Rewrites.{rewrites, rewrites_whole}
use Rattle.moving.specs.Moving.{moved_to}
use Rattle.moving.specs.Tally.{tallied_fill, moved_to_second}
use Rattle.moving.proofs.Tally.{tallied_one}
use Rattle.noteless.proofs.Texts.{texts-stepped, texts-rewritten, texts-rewritten-whole, texts-moved_answer, texts-moved}
use Rattle.noteless.proofs.ButFor.{notes_printed, notes_stepped}
use Rattle.moved.proofs.Moves.{moves}
use Rattle.moved.proofs.Tally.{moves_to_second}
use Rattle.printing.specs.Printing.{Written}
use Rattle.caller.proofs.Text.{text-put}
use Rattle.rewriting.specs.Rewriting.{Rewrote}
use Rattle.two.specs.declared.Two.{Two}
use Rattle.moving.specs.Tally.{Tallied}
use Rattle.alike_calls.specs.Alike.{PrintedBoth, ListedBoth, RewrittenBoth, WholeBoth, MovedBoth, TalliedBoth}

-- equal fillings, of equal answers and contents
same-fill : {r q : Filled} {B B' : List ℕ} → fill_of (said q) B' ≡ fill_of (said r) B → (q ≡ r) × (B' ≡ B)
same-fill {r} {q} e = (said_one q r (ap (λ (x : Fill). x.answer) e), ap (λ (x : Fill). x.buffer) e)

module _ (s t o o' : List ℕ) {B B' : List ℕ} where
  pub printed_both : (r : Two ℕ) → Written s o B r.one → Written t o' B' r.other → PrintedBoth s t r o o' B B'
  printed_both r x y =
      record {
        one = text-put x;
        other = text-put y;
        but_for_notes =
            λ e n.
            let p = notes_printed n in
            (y.end ∙ ap length p ∙ sym x.end, y.is ∙ rw (← e, p) (sym x.is));
      }

  pub listed_both : AllBytes s → AllBytes t → (r : Two Filled) → fill_of (said r.one) B ≡ stepped s o → fill_of (said r.other) B' ≡ stepped t o'
      → ListedBoth s t r o o' B B'
  listed_both a b r x y =
      record {
        one = lists s o a r.one B x;
        other = lists t o' b r.other B' y;
        but_for_notes = λ e n. same-fill (y ∙ ap (stepped t) (sym e) ∙ notes_stepped n o ∙ sym x);
      }

  pub whole_both : AllBytes s → AllBytes t → (r : Two Filled) → fill_of (said r.one) B ≡ rewritten_whole s o → fill_of (said r.other) B' ≡ rewritten_whole t o'
      → WholeBoth s t r o o' B B'
  whole_both a b r x y =
      record {
        one = rewrites_whole s a o r.one B x;
        other = rewrites_whole t b o' r.other B' y;
        other_texts = λ e n. same-fill (y ∙ ap (rewritten_whole t) (sym e) ∙ texts-rewritten-whole n o ∙ sym x);
      }

  pub moved_both_1 : AllBytes s → AllBytes t → (r : Two Filled) → fill_of (said r.one) B ≡ moved_to false s o → fill_of (said r.other) B' ≡ moved_to false t o'
      → MovedBoth s t r o o' B B'
  moved_both_1 a b r x y =
      record {
        one = moves false s a o r.one B x;
        other = moves false t b o' r.other B' y;
        other_texts =
            λ e n.
            said_one r.other r.one
            (ap (λ (z : Fill). z.answer) (y ∙ ap (moved_to false t) (sym e)) ∙ texts-moved_answer n false o ∙ ap (λ (z : Fill). z.answer) (sym x));
      }

  pub moved_both_2 : AllBytes s → AllBytes t → (r : Two Tallied) → tallied_fill r.one B ≡ moved_to_second s o → tallied_fill r.other B' ≡ moved_to_second t o'
      → TalliedBoth s t r o o' B B'
  moved_both_2 a b r x y =
      record {
        one = moves_to_second s o B a r.one x;
        other = moves_to_second t o' B' b r.other y;
        other_texts = λ e n. tallied_one r.other r.one (y ∙ ap (moved_to_second t) (sym e) ∙ texts-moved n o ∙ sym x);
      }

pub rewritten_both : (s t x o x' o' : List ℕ) {X B X' B' : List ℕ} → AllBytes s → AllBytes t → (r : Two Filled) → Rewrote r.one s x X o B
    → Rewrote r.other t x' X' o' B' → RewrittenBoth s t r x o x' o' X B X' B'
rewritten_both s t x o x' o' {X} {B} {X'} {B'} c d r a b =
    record {
      one = rewrites s c x o r.one X B a.is a.steps;
      other = rewrites t d x' o' r.other X' B' b.is b.steps;
      other_texts =
          λ e f n.
          let z = same-fill (b.is ∙ rw (← e, ← f) (texts-rewritten n x o) ∙ sym a.is) in
          (z.0, b.steps ∙ rw (← e) (ap (λ (y : Fill). y.buffer) (texts-stepped n x)) ∙ sym a.steps, z.1);
    }
