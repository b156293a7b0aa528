-- What fills a buffer is refused with numbers of the table only: each is a cause's.
use Prim.Native.Nat.{ℕ, ◌+◌, ◌<◌}
use mathlib.Core.Path.{◌≡◌, refl, ap, sym, ◌∙◌}
use mathlib.Core.Bool.{false≢true}
use mathlib.Core.List.{List, [], ◌∷◌}
use mathlib.Core.Logic.{⊎_elim}
use lib.Dec.{ltb}
use lib.ListN.{length}
use borrow.Author.Tests.{ltb-true}
use Rattle.base.proofs.Tests.{ifso, pick_on, pick_off, pick_both, split}
use Rattle.rules.specs.History.{History, tx_count, current, empty}
use Rattle.rules.specs.Records.{is_second}
use Rattle.rules.specs.Reading.{Reading, refused, read, reading, step_rows, entered}
use Rattle.rules.specs.declared.Event.{Event}
use Rattle.rules.specs.declared.Event.TheVariants.{End}
use Rattle.rules.proofs.Refusals.{cause_of}
use Rattle.rules.proofs.Named.{Named, RowsNamed, fit_named, reading_named}
use Rattle.writing.specs.Filling.{Said, Work, refusal, content, Fill, refusing, into}
use Rattle.writing.specs.Steps.{steps_in}
use Rattle.writing.specs.Writing.{write_rows, write_no, end_no, Followed, bad, good, follow, wrote, written}
use Rattle.writing.specs.Listing.{steps_read, stepped}
use Rattle.writing.proofs.Filling.{into_short, into-fits}

-- work that is refused, if it is, with such a number
abbrev pub WorkNamed : Work → Type 0
WorkNamed (refusal n p) = Named n
WorkNamed (content l) = Unit {0}

-- .. so is what comes of it with any buffer: 16 where l does not fit
pub into_named : (w : Work) → WorkNamed w → (o : List ℕ) {n p : ℕ} → (into w o).answer ≡ refusing n p → Named n
unfolding into cause_of
into_named (refusal m q) d o e = rw (ap (λ (x : Said). x.no) e) at d
into_named (content l) d o {n} e =
    ⊎_elim
    (λ y. let z : 16 ≡ n = ap (λ (x : Fill). x.answer.no) (sym (into_short l o y)) ∙ ap (λ (x : Said). x.no) e in rw (← z))
    (λ y. absurd (false≢true (ap (λ (x : Fill). x.answer.is_refused) (sym (into-fits l o y)) ∙ ap (λ (x : Said). x.is_refused) e)))
    (split (length o) (length l))

-- ── steps ──

steps_named : (h : History) (t : ℕ) (e : Event) → RowsNamed (step_rows h t e)
unfolding RowsNamed step_rows cause_of
steps_named h t e = (refl, (refl, (refl, (refl, tt))))

write_named : (h : History) (e : Event) → 0 < write_no h e → Named (write_no h e)
unfolding write_no write_rows RowsNamed cause_of
write_named h e l = fit_named (write_rows h e) (refl, steps_named h (current h) e) l

end_named : (h : History) → 0 < end_no h → Named (end_no h)
unfolding end_no
end_named h l = fit_named _ (steps_named h (current h) (End (tx_count h))) l

abbrev FollowedNamed : Followed → Type 0
FollowedNamed (bad n p) = Named n
FollowedNamed (good h) = Unit {0}

follow_named : (h : History) (k : ℕ) (es : List Event) → FollowedNamed (follow h k es)
unfolding follow
follow_named h k [] =
    ifso (ltb 0 (end_no h)) (λ t. rw (pick_on _ (bad (end_no h) k) (good h) t) (end_named h (ltb-true _ _ t))) (λ t. rw (pick_off _ (bad (end_no h) k) (good h) t) tt)
follow_named h k (e ∷ es) =
    ifso (ltb 0 (write_no h e)) (λ t. rw (pick_on _ (bad (write_no h e) k) (follow (entered h (current h) e) (k + 1) es) t) (write_named h e (ltb-true _ _ t)))
    (λ t. rw (pick_off _ (bad (write_no h e) k) (follow (entered h (current h) e) (k + 1) es) t) (follow_named (entered h (current h) e) (k + 1) es))

-- the trace of the steps s
pub wrote_named : (s : List ℕ) (n : ℕ) → WorkNamed (wrote n (steps_in s) (follow empty 1 (steps_in s)))
unfolding wrote
wrote_named s n = by _ (follow_named empty 1 (steps_in s))
  where
    by : (f : Followed) → FollowedNamed f → WorkNamed (wrote n (steps_in s) f)
    by (bad m p) d = d
    by (good h) d = tt

pub written_named : (s : List ℕ) (k : ℕ) (o : List ℕ) {n p : ℕ} → (written s k o).answer ≡ refusing n p → Named n
unfolding written
written_named s k = into_named (wrote k (steps_in s) (follow empty 1 (steps_in s))) (wrote_named s k)

-- ── the steps of a trace ──

pub steps_read_named : (s : List ℕ) → WorkNamed (steps_read (is_second s) (reading s))
unfolding steps_read cause_of
steps_read_named s = by (reading s) refl
  where
    by : (r : Reading) → reading s ≡ r → WorkNamed (steps_read (is_second s) r)
    by (refused n p) e = reading_named s e
    by (read h notes) e = pick_both WorkNamed (is_second s) refl tt

pub stepped_named : (s o : List ℕ) {n p : ℕ} → (stepped s o).answer ≡ refusing n p → Named n
unfolding stepped
stepped_named s = into_named (steps_read (is_second s) (reading s)) (steps_read_named s)
