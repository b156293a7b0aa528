-- One record: from the framing and the step to the turn, and what a turn says.
use Rattle.std.proofs.Common.{◌≡◌, ℕ, ◌+◌, ◌<◌, ◌≤◌, Bool, true, false, not, ltb, ◌⊎◌, List, length, sym, refl, ap, ◌∙◌, subst, inl, inr, arith, ltb-false, ltb-true, lt-ltb}
use Rattle.base.specs.Base.{pick}
use Rattle.base.proofs.Tests.{ifso, pick_on, pick_off}
use Rattle.rules.specs.History.{History, is_single}
use Rattle.rules.specs.Records.{next_at, next_serial, payload_at, is_second, session_at, event_at, written_key, Sound}
use Rattle.rules.specs.Numbers.{le}
use Rattle.rules.specs.Reading.{is_end, notes_behind, misplaced, step_rows, entered, met_by, met_in}
use Rattle.rules.specs.declared.Event.{Event}
use Rattle.rules.specs.declared.Event.TheVariants as E
use Rattle.frame.specs.Framing.{session_of, Fit, framing}
use Rattle.frame.specs.declared.Stated.{Stated}
use Rattle.std.specs.Prelude.{Result, Ok, Err}
use Rattle.rules.specs.Refusals.{cause_no, refusal_at, Declined, declined, numbered, told}
use Rattle.rules.specs.declared.Cause.{Cause}
use Rattle.rules.specs.declared.Refusal.{Refusal}
use Rattle.base.proofs.Rows.{fit_append}
use Rattle.frame.proofs.Frames.{event_here, is_bad, is_good, good_fit, good_session, good_begins, behind}
use Rattle.table.specs.Table.{history_of, Held}
use Rattle.steps.specs.Steps.{put, goes, step_no, Took}
use Rattle.steps.specs.declared.Next.{Next}
use Rattle.steps.specs.declared.Next.TheVariants as N
use Rattle.trace.specs.declared.Turn.{Turn}
use Rattle.trace.specs.declared.Turn.TheVariants.{More, Over}
use Rattle.trace.specs.Turns.{no_at, met_at, is_of_lists, finish, turn, put_at, entered_at, Turned}

-- ── what a step's answer says of its event e, where m is the number of the row that refuses it ──

unfoldable Says : ℕ → Event → Result Next ℕ → Type 0
Says m e (Ok N.Go) = (m ≡ 0) × (is_end e ≡ false) × ((n : ℕ) → notes_behind n e ≡ n) × (is_of_lists e ≡ false)
Says m e (Ok N.Count) = (m ≡ 0) × (is_end e ≡ false) × ((n : ℕ) → notes_behind n e ≡ n + 1) × (is_of_lists e ≡ false)
Says m e (Ok N.List) = (m ≡ 0) × (is_end e ≡ false) × ((n : ℕ) → notes_behind n e ≡ n) × (is_of_lists e ≡ true)
Says m e (Ok N.Done) = (m ≡ 0) × (is_end e ≡ true)
Says m e (Err n) = (m ≡ n) × (0 < n)

-- behind a write, by its key
passes_write : (m x v : ℕ) (b : Bool) → is_single x ≡ b → m ≡ 0 → Says m (E.Write x v) (Ok (pick b N.Go N.List))
unfolding Says is_end notes_behind is_of_lists written_key pick
passes_write m x v true e z = (z, refl, λ n. refl, ap not e)
passes_write m x v false e z = (z, refl, λ n. refl, ap not e)

passes : (m : ℕ) (e : Event) → m ≡ 0 → Says m e (Ok (goes e))
unfolding Says goes is_end notes_behind is_of_lists written_key
passes m (E.Open n) z = (z, refl, λ n. refl, refl)
passes m (E.Read x v) z = (z, refl, λ n. refl, refl)
passes m (E.Write x v) z = passes_write m x v (is_single x) refl z
passes m (E.Close x) z = (z, refl, λ n. refl, refl)
passes m (E.End n) z = (z, refl)
passes m E.Note z = (z, refl, λ n. refl, refl)
passes m E.Other z = (z, refl, λ n. refl, refl)

says : (m : ℕ) (e : Event) (r : Result Next ℕ) → r ≡ pick (ltb 0 m) (Err m) (Ok (goes e)) → Says m e r
unfolding Says
says m e r q =
    subst (Says m e) (sym q)
    (ifso (ltb 0 m) (λ t. subst (Says m e) (sym (pick_on _ _ _ t)) (refl, ltb-true _ _ t))
    (λ t. let z : m ≤ 0 = ltb-false _ _ t in subst (Says m e) (sym (pick_off _ _ _ t)) (passes m e (omega arith))))

-- ── the session that a record's reader answers is the record's, wherever its step asks for it ──

module _ {r : Result Next Cause} {g2 g : List ℕ} where
  -- a note and a record of kind 16 do the same whatever they meet
  any_note : (t u : ℕ) → Took r g2 g t E.Note → Took r g2 g u E.Note
  unfolding step_no step_rows misplaced put entered
  any_note t u x = record { is = x.is; words = x.words; history = x.history; held = x.held }

  any_other : (t u : ℕ) → Took r g2 g t E.Other → Took r g2 g u E.Other
  unfolding step_no step_rows misplaced put entered
  any_other t u x = record { is = x.is; words = x.words; history = x.history; held = x.held }

  -- p is the payload, and n the session that it begins with in edition 2
  took-own : (second : Bool) (p : List ℕ) (n : ℕ) (h : History) (e : Event) → (second ≡ true → le 2 p 0 ≡ n)
      → Took r g2 g (met_in second h (session_of second p e) e) e → Took r g2 g (met_in second h n e) e
  unfolding met_in met_by is_end session_of pick
  took-own false p n h e q x = x
  took-own true p n h (E.Open m) q x = rw (← q refl) x
  took-own true p n h (E.Read k v) q x = rw (← q refl) x
  took-own true p n h (E.Write k v) q x = rw (← q refl) x
  took-own true p n h (E.Close c) q x = rw (← q refl) x
  took-own true p n h (E.End m) q x = x
  took-own true p n h E.Note q x = any_note _ _ x
  took-own true p n h E.Other q x = any_other _ _ x

-- ── from the framing and the step to the turn ──

module _ (s : List ℕ) (at serial : ℕ) (h : History) {second : Bool} (own : second ≡ is_second s) where
  no_bad : {n : ℕ} → framing second s at serial ≡ Err n → (no_at s at serial h ≡ n) × (0 < n)
  unfolding no_at
  no_bad q =
      let b = is_bad second s at serial q in
      (rw (← own) (fit_append _ _ (rw b.0 b.1) ∙ b.0), b.1)

  module _ {w : Stated} (q : framing second s at serial ≡ Ok w) where
    same : event_at s at ≡ w.event
    same = sym (event_here s at own) ∙ ap (λ (x : Stated). x.event) (is_good second s at serial q).1

    meets : met_at s at h ≡ met_in second h (session_at s at) w.event
    meets = rw (← own, same)

    number : no_at s at serial h ≡ step_no h (met_in second h (session_at s at) w.event) w.event
    unfolding no_at step_no
    number =
        let b = behind second s at serial (step_rows h (met_in second h (session_at s at) w.event) w.event) (is_good second s at serial q).0 in
        rw (same, ← own) b

-- the framing refuses
pub turned_bad : (s g : List ℕ) (at serial notes : ℕ) {second : Bool} {c : Cause} → second ≡ is_second s → framing second s at serial ≡ Err (cause_no c) → Held g
    → Turned (Err (refusal_at c at)) g g s at serial notes
unfolding turn put_at entered_at pick
turned_bad s g at serial notes own q h =
    let b = no_bad s at serial (history_of g) own q in
    let t = lt-ltb _ _ b.1 in
    record {
      is = rw (b.0, t);
      words = rw (b.0, t);
      history = rw (b.0, t);
      held = h;
      sound = λ i j k l e. let z : ◌≡◌ {A = ℕ} 0 1 = cc in absurd (omega arith);
    }

-- the framing passes, and the step answers
module _ (s g g2 : List ℕ) (at serial notes : ℕ) (w : Stated) (next : Result Next Cause) {second : Bool} (own : second ≡ is_second s)
    (fr : framing second s at serial ≡ Ok w) (v : Sound at w.event) (x : Took next g2 g (met_in second (history_of g) w.session w.event) w.event) where
  took : Took next g2 g (met_in second (history_of g) (session_at s at) w.event) w.event
  took =
      took-own second (payload_at s at) (session_at s at) (history_of g) w.event (good_begins second s at serial fr)
      (rw (← good_session second s at serial fr) x)

  turned : {r : Result Turn Refusal} → told r ≡ turn s at serial notes (history_of g) → Turned r g2 g s at serial notes
  unfolding put_at entered_at
  turned q =
      let n = number s at serial (history_of g) own fr in
      let m = meets s at serial (history_of g) own fr in
      let e = same s at serial (history_of g) own fr in
      record { is = q; words = rw (n, m, e) took.words; history = rw (n, m, e) took.history; held = took.held; sound = λ i j k l q. rw e v }

  tells : (r : Result Next ℕ) → numbered next ≡ r → Says (no_at s at serial (history_of g)) w.event r
  tells r q =
      rw (number s at serial (history_of g) own fr)
      (says (step_no (history_of g) (met_in second (history_of g) (session_at s at) w.event) w.event) w.event r (sym q ∙ took.is))

  pub turned_refuse : {c : Cause} → next ≡ Err c → Turned (Err (refusal_at c at)) g2 g s at serial notes
  unfolding turn pick Says
  turned_refuse {c} q =
      let a = tells (Err (cause_no c)) (ap numbered q) in
      turned (rw (a.0, lt-ltb _ _ a.1))

  pub turned_done : {r : Result Turn Refusal} → next ≡ Ok N.Done → told r ≡ finish s (next_at s at) notes → Turned r g2 g s at serial notes
  unfolding turn pick Says
  turned_done q p =
      let a = tells (Ok N.Done) (ap numbered q) in
      turned (rw (a.0, same s at serial (history_of g) own fr, a.1, p))

  pub turned_go : {after follow : ℕ} → next ≡ Ok N.Go → after ≡ next_at s at → follow ≡ next_serial s at → Turned (Ok (More after follow notes false)) g2 g s at serial notes
  unfolding turn pick Says
  turned_go q p f =
      let a = tells (Ok N.Go) (ap numbered q) in
      turned (rw (a.0, same s at serial (history_of g) own fr, a.1, a.2 notes, a.3, p, f))

  pub turned_list : {after follow : ℕ} → next ≡ Ok N.List → after ≡ next_at s at → follow ≡ next_serial s at → Turned (Ok (More after follow notes true)) g2 g s at serial notes
  unfolding turn pick Says
  turned_list q p f =
      let a = tells (Ok N.List) (ap numbered q) in
      turned (rw (a.0, same s at serial (history_of g) own fr, a.1, a.2 notes, a.3, p, f))

  pub turned-count : {after follow count : ℕ} → next ≡ Ok N.Count → after ≡ next_at s at → follow ≡ next_serial s at → count ≡ notes + 1
      → Turned (Ok (More after follow count false)) g2 g s at serial notes
  unfolding turn pick Says
  turned-count q p f n =
      let a = tells (Ok N.Count) (ap numbered q) in
      turned (rw (a.0, same s at serial (history_of g) own fr, a.1, a.2 notes, a.3, p, f, n))

-- ── what a turn says ──

-- a record that no row refuses lies within the trace
pub fit_at : (s : List ℕ) (at serial : ℕ) (h : History) → ltb 0 (no_at s at serial h) ≡ false → Fit (is_second s) s at
fit_at s at serial h t = go (framing (is_second s) s at serial) refl
  where
    go : (f : Result Stated ℕ) → framing (is_second s) s at serial ≡ f → Fit (is_second s) s at
    go (Err n) q = let b = no_bad s at serial h refl q in let z : no_at s at serial h ≤ 0 = ltb-false _ _ t in absurd (omega (arith, b.0, b.1))
    go (Ok w) q = good_fit (is_second s) s at serial q

pub record Onward (s : List ℕ) (at serial notes : ℕ) (h : History) (after follow count : ℕ) (lists : Bool) : Type 0 where
  pub passes : ltb 0 (no_at s at serial h) ≡ false
  pub goes : is_end (event_at s at) ≡ false
  pub after_is : after ≡ next_at s at
  pub follow_is : follow ≡ next_serial s at
  pub count_is : count ≡ notes_behind notes (event_at s at)
  pub lists_is : lists ≡ is_of_lists (event_at s at)

-- a turn after which nothing more is read, in the document's numbers: the number of notes, or refused
abbrev pub over : Result ℕ Declined → Result Turn Declined
over (Ok n) = Ok (Over n)
over (Err d) = Err d

pub over_one : (a b : Result ℕ Declined) → over a ≡ over b → a ≡ b
over_one (Ok n) (Ok m) e = let q : n ≡ m = cc in rw q
over_one (Ok n) (Err d) e = let z : ◌≡◌ {A = ℕ} 0 1 = cc in absurd (omega arith)
over_one (Err d) (Ok m) e = let z : ◌≡◌ {A = ℕ} 0 1 = cc in absurd (omega arith)
over_one (Err d) (Err f) e = let q : d ≡ f = cc in rw q

-- it goes on nowhere
over-more : (o : Result ℕ Declined) {after follow count : ℕ} {lists : Bool} → over o ≡ Ok (More after follow count lists) → ⊥
over-more (Ok n) e = let z : ◌≡◌ {A = ℕ} 0 1 = cc in absurd (omega arith)
over-more (Err d) e = let z : ◌≡◌ {A = ℕ} 0 1 = cc in absurd (omega arith)

finish-over : (s : List ℕ) (at notes : ℕ) → (o : Result ℕ Declined) × (over o ≡ finish s at notes)
unfolding finish
finish-over s at notes =
    ifso (ltb at (length s)) (λ t. (Err (declined 11 at), sym (pick_on _ _ _ t))) (λ t. (Ok notes, sym (pick_off _ _ _ t)))

pub record Refused (s : List ℕ) (at serial : ℕ) (h : History) (o : Result ℕ Declined) : Type 0 where
  pub refuses : ltb 0 (no_at s at serial h) ≡ true
  pub is : o ≡ Err (declined (no_at s at serial h) at)

pub record Ended (s : List ℕ) (at serial notes : ℕ) (h : History) (o : Result ℕ Declined) : Type 0 where
  pub passes : ltb 0 (no_at s at serial h) ≡ false
  pub ends : is_end (event_at s at) ≡ true
  pub is : over o ≡ finish s (next_at s at) notes

module _ (s : List ℕ) (at serial notes : ℕ) (h : History) where
  pub more_says : {after follow count : ℕ} {lists : Bool} → turn s at serial notes h ≡ Ok (More after follow count lists)
      → Onward s at serial notes h after follow count lists
  unfolding turn
  more_says {after} {follow} {count} {lists} q =
      ifso (ltb 0 (no_at s at serial h))
      (λ t.
      let w : over (Err (declined (no_at s at serial h) at)) ≡ Ok (More after follow count lists) = sym (pick_on _ _ _ t) ∙ q in
      absurd (over-more (Err (declined (no_at s at serial h) at)) w))
      (λ t.
      let p = sym (pick_off _ _ _ t) ∙ q in
      ifso (is_end (event_at s at))
      (λ u.
      let f = finish-over s (next_at s at) notes in
      absurd (over-more f.0 (f.1 ∙ sym (pick_on _ _ _ u) ∙ p)))
      (λ u.
      let w : Ok (More (next_at s at) (next_serial s at) (notes_behind notes (event_at s at)) (is_of_lists (event_at s at))) ≡ Ok (More after follow count lists) = sym (pick_off _ _ _ u) ∙ p in
      record { passes = t; goes = u; after_is = cc; follow_is = cc; count_is = cc; lists_is = cc }))

  pub stop_says : {o : Result ℕ Declined} → turn s at serial notes h ≡ over o → Refused s at serial h o ⊎ Ended s at serial notes h o
  unfolding turn
  stop_says {o} q =
      ifso (ltb 0 (no_at s at serial h))
      (λ t.
      let w : over (Err (declined (no_at s at serial h) at)) ≡ over o = sym (pick_on _ _ _ t) ∙ q in
      inl (record { refuses = t; is = sym (over_one (Err (declined (no_at s at serial h) at)) o w) }))
      (λ t.
      let p = sym (pick_off _ _ _ t) ∙ q in
      ifso (is_end (event_at s at))
      (λ u. inr (record { passes = t; ends = u; is = sym p ∙ pick_on _ _ _ u }))
      (λ u.
      let w : over o ≡ Ok (More (next_at s at) (next_serial s at) (notes_behind notes (event_at s at)) (is_of_lists (event_at s at))) = sym p ∙ pick_off _ _ _ u in
      absurd (over-more o w)))
