-- Laws of a record's fields and framing.
use Prim.Native.Nat.{ℕ, zero, suc, ◌+◌, ◌-◌, ◌*◌, ◌^◌, ◌≤◌, ◌<◌, min}
use mathlib.Core.Path.{◌≡◌, refl, ap, sym, ◌∙◌}
use mathlib.Core.Bool.{Bool, true, false, not}
use mathlib.Core.List.{List, [], ◌∷◌, ◌++◌}
use mathlib.Core.Logic.{◌⊎◌, inl, inr, ⊎_elim}
use native.Mathlib.Omega.{arith}
use native.Mathlib.Nat.{suc-add, pow-suc, mul_assoc, mul_comm}
use lib.ListN.{length, get_or, drop, length-take, length-drop, get_or-append, get_or-eq_default}
use lib.Dec.{ltb, eqb}
use borrow.Author.Tests.{ltb-true, ltb-false, eqb-true, eqb-false, eq-eqb, ne_eqb, lt-ltb, le-ltb}
use Rattle.base.specs.Base.{◌and◌, ◌or◌, pick, Row, first_fit}
use Rattle.base.proofs.Tests.{clash, ifso, split, and_left, and_right, and_no_right, and-true, or_on, neither_left, neither_right, not-false, pick_on, pick_off, pick_both}
use Rattle.rules.specs.Numbers.{le}
use Rattle.rules.proofs.Records.{payload_begins}
use Rattle.rules.specs.Records.{len_at, kind_at, next_at, payload_at, is_second, fields_from, is_append, is_list_read, number_at, list_place, session_at, lows, highs, event_of, event_at, read_key, written_key, breaks, is_unknown, is_misfit, is_late, is_other_edition, frame_rows}
use Rattle.frame.specs.Framing.{kind_rows, lengths, ListKind, Above, session_of, stated_of, stated_at, StatedIs, LongEnough, Fit, framing}
use Rattle.frame.specs.declared.Stated.{Stated}
use Rattle.rules.specs.declared.Event.TheVariants.{Other}
use Rattle.std.specs.Prelude.{Ok, Err}
use Rattle.base.proofs.Rows.{fit_past, fit_here, fit_none, fit_unfit, RowsCounted, fit_behind}

-- a byte is a number of one
pub one_byte : (s : List ℕ) (at : ℕ) → get_or s at 0 ≡ le 1 s at
unfolding le
one_byte s at = omega arith

-- a number of m + n bytes is its lower m bytes and its upper n
pub le_add : (m n : ℕ) (s : List ℕ) (at : ℕ) → le (m + n) s at ≡ le m s at + 256 ^ m * le n s (at + m)
unfolding le
le_add zero n s at =
    let a : at + 0 ≡ at = omega arith in
    let z : 0 + n ≡ n = omega arith in
    let o : 1 * le n s at ≡ le n s at = omega arith in
    rw (a, z) (omega arith)
le_add (suc m) n s at =
    let e : le (m + n) s (at + 1) ≡ le m s (at + 1) + 256 ^ m * le n s (at + 1 + m) = le_add m n s (at + 1) in
    let a : at + suc m ≡ at + 1 + m = omega arith in
    let f : 256 ^ suc m * le n s (at + 1 + m) ≡ 256 * (256 ^ m * le n s (at + 1 + m)) =
    ap (λ (k : ℕ). k * le n s (at + 1 + m)) (pow-suc 256 m ∙ mul_comm (256 ^ m) 256) ∙ mul_assoc 256 (256 ^ m) (le n s (at + 1 + m)) in
    rw (a, suc-add m n) (omega arith)

-- the length field counts the six bytes of kind and serial, and the payload
pub payload_length : (s : List ℕ) (at : ℕ) → 6 ≤ len_at s at → next_at s at ≤ length s → length (payload_at s at) + 6 ≡ len_at s at
payload_length s at h r =
    let n : length (payload_at s at) ≡ len_at s at - 6 =
    length-take (next_at s at - (at + 8)) (drop (at + 8) s) ∙ ap (λ (m : ℕ). min (next_at s at - (at + 8)) m) (length-drop (at + 8) s) ∙ omega arith in
    omega arith

-- what is held of a list read is its offset, if it is not 0
pub own-place : (at n : ℕ) {v : ℕ} → v ≡ list_place at n → 0 < v → v ≡ at
unfolding list_place
own-place at n {v} e l =
    ifso (ltb 32 n) (λ t. absurd (omega (arith, e ∙ pick_on {X = ℕ} (ltb 32 n) 0 at t))) (λ t. e ∙ pick_off {X = ℕ} (ltb 32 n) 0 at t)

-- any kind that has no rule says nothing
pub other-event : (second : Bool) (at kind : ℕ) (p : List ℕ) → Above kind → (kind ≡ 23 → ⊥) → (kind ≡ 24 → ⊥) → event_of second at kind p ≡ Other
unfolding event_of is_append is_list_read pick
other-event second at kind p u a b =
    rw (
      ne_eqb kind 1 (λ e. u (omega arith) (omega arith)),
      ne_eqb kind 2 (λ e. u (omega arith) (omega arith)),
      ne_eqb kind 3 (λ e. u (omega arith) (omega arith)),
      ne_eqb kind 4 (λ e. u (omega arith) (omega arith)),
      ne_eqb kind 5 (λ e. u (omega arith) (omega arith)),
      ne_eqb kind 6 (λ e. u (omega arith) (omega arith)),
      ne_eqb kind 23 a,
      ne_eqb kind 24 b,
      and_no_right second false refl,
    )

-- a payload is as long as its kind's reader needs
pub long_enough : (second : Bool) (p : List ℕ) {kind k n : ℕ} → kind ≡ k → LongEnough second kind (length p + 6) → n + 6 ≡ get_or (lows second) k 0 → n ≤ length p
long_enough second p {kind} {k} e h q = let g : get_or (lows second) k 0 ≤ length p + 6 = rw (← e) h.low in omega arith

-- the least lengths of kinds 1 to 5, by their fields; those of a read, a write and a close begin where fields_from says
pub record Leasts (second : Bool) : Type 0 where
  pub opens : 2 + 6 ≡ get_or (lows second) 1 0
  pub reads : fields_from second + 12 + 6 ≡ get_or (lows second) 2 0
  pub writes : fields_from second + 12 + 6 ≡ get_or (lows second) 3 0
  pub closes : fields_from second + 1 + 6 ≡ get_or (lows second) 4 0
  pub ends : 2 + 6 ≡ get_or (lows second) 5 0

pub leasts : (second : Bool) → Leasts second
leasts true = record { opens = refl; reads = refl; writes = refl; closes = refl; ends = refl }
leasts false = record { opens = refl; reads = refl; writes = refl; closes = refl; ends = refl }

-- what a record of the kind k says is what one of this kind does, where k is its kind
pub of_kind : (second : Bool) (at : ℕ) (p : List ℕ) {kind k : ℕ} {r : Stated} → kind ≡ k → StatedIs at r (stated_of second at k p) → StatedIs at r (stated_of second at kind p)
of_kind second at p e h = rw e h

-- .. which is no operation
pub says_nothing : (second : Bool) (at : ℕ) (p : List ℕ) {kind k : ℕ} {r : Stated} → kind ≡ k → r ≡ stated_of second at k p
    → read_key (stated_of second at k p).event ≡ 0 → written_key (stated_of second at k p).event ≡ 0 → StatedIs at r (stated_of second at kind p)
says_nothing second at p e h a b =
    of_kind second at p e (record { is = h; sound = rw h (record { single = omega (arith, a); narrow = omega (arith, b); placed = λ l. absurd (omega (arith, b)) }) })

-- a payload of a kind above 6 is as long in edition 2
pub long_above : (second : Bool) (kind m : ℕ) → Above kind → LongEnough second kind m → LongEnough true kind m
long_above second kind m u l =
    record {
      low = ⊎_elim (λ (h : kind < 6). let z : kind ≡ 0 = zero_or h in rw z (omega arith)) (λ (h : 6 ≤ kind). omega (arith, get_or-eq_default (lows true) 0 {n = kind} h)) (split kind 6);
      append = λ e. (refl, (l.append e).1);
      list = λ e. (refl, (l.list e).1);
    }
  where
    zero_or : kind < 6 → kind ≡ 0
    zero_or h = ⊎_elim (λ (g : 0 < kind). absurd (u (omega arith) (omega arith))) (λ g. omega arith) (split 0 kind)

-- a kind above 6 says the same in both editions, if one of lists is of edition 2
pub above_same : (second : Bool) (at kind : ℕ) (p : List ℕ) → Above kind → (kind ≡ 23 → second ≡ true) → (kind ≡ 24 → second ≡ true)
    → stated_of true at kind p ≡ stated_of second at kind p
unfolding session_of
above_same true at kind p u a b = refl
above_same false at kind p u a b =
    rw (
      other-event true at kind p u (λ e. clash (a e) refl) (λ e. clash (b e) refl),
      other-event false at kind p u (λ e. clash (a e) refl) (λ e. clash (b e) refl),
    )

-- what is read in the trace's own edition is the record's event
pub event_here : (s : List ℕ) (at : ℕ) {second : Bool} → second ≡ is_second s → (stated_at second s at).event ≡ event_at s at
unfolding event_at
event_here s at q = rw q

-- kinds that are not unknown: those of the tables, as many as each edition has, 16, and in edition 2 those of lists
known_kind : (second : Bool) (kind : ℕ) → is_unknown second kind ≡ false → (kind ≡ 16 → ⊥)
    → ((1 ≤ kind) × (kind ≤ pick second 5 6)) ⊎ ((second ≡ true) × ListKind kind)
unfolding is_unknown is_append is_list_read ◌and◌
known_kind second kind h o =
    ifso (second and eqb kind 23)
    (λ t. inr (and_left _ _ t, inl (eqb-true kind 23 (and_right second _ t))))
    (λ t.
    ifso (second and eqb kind 24)
    (λ u. inr (and_left _ _ u, inr (eqb-true kind 24 (and_right second _ u))))
    (λ u.
    let w : (second and eqb kind 23) or (second and eqb kind 24) ≡ false = or_on _ _ t ∙ u in
    let g : ltb kind 1 or ltb (pick second 5 6) kind ≡ false = rw (ne_eqb kind 16 o, w) at h in
    inl (ltb-false _ _ (neither_left _ _ g), ltb-false _ _ (neither_right _ _ g))))

-- in edition 1; in edition 2 up to 5 and above
pub kind-first : (kind : ℕ) → is_unknown false kind ≡ false → (kind ≡ 16 → ⊥) → (1 ≤ kind) × (kind < 7)
unfolding pick
kind-first kind h o = ⊎_elim (λ l. (l.0, omega (arith, l.1))) (λ l. absurd (clash l.0 refl)) (known_kind false kind h o)

pub kind-second : (kind : ℕ) → is_unknown true kind ≡ false → (kind ≡ 16 → ⊥) → ((1 ≤ kind) × (kind < 6)) ⊎ ListKind kind
unfolding pick
kind-second kind h o = ⊎_elim (λ l. inl (l.0, omega (arith, l.1))) (λ l. inr l.1) (known_kind true kind h o)

pub kind_lists : (kind : ℕ) → is_unknown true kind ≡ false → (kind ≡ 16 → ⊥) → 5 < kind → ListKind kind
kind_lists kind h o l = ⊎_elim (λ m. absurd (omega (arith, m.1))) (λ m. m) (kind-second kind h o)

pub kind-low : (kind : ℕ) → is_unknown true kind ≡ false → (kind ≡ 16 → ⊥) → kind ≤ 5 → (1 ≤ kind) × (kind < 6)
kind-low kind h o l = ⊎_elim (λ m. m) (λ m. ⊎_elim (λ e. absurd (omega arith)) (λ e. absurd (omega arith)) m) (kind-second kind h o)

-- which kinds are unknown
pub unknown_16 : (second : Bool) {kind : ℕ} → kind ≡ 16 → is_unknown second kind ≡ false
unfolding is_unknown ◌and◌
unknown_16 second e = rw e

pub unknown_0 : (second : Bool) (kind : ℕ) → kind < 1 → is_unknown second kind ≡ true
unfolding is_unknown is_append is_list_read ◌or◌ ◌and◌
unknown_0 second kind l =
    rw (ne_eqb kind 16 (λ e. omega arith), ne_eqb kind 23 (λ e. omega arith), ne_eqb kind 24 (λ e. omega arith), and_no_right second false refl, lt-ltb kind 1 l)

pub unknown_first : (kind : ℕ) → (kind ≡ 16 → ⊥) → 1 ≤ kind → is_unknown false kind ≡ ltb 6 kind
unfolding is_unknown is_append is_list_read ◌or◌ ◌and◌ pick
unknown_first kind d l = rw (ne_eqb kind 16 d, le-ltb kind 1 l)

pub unknown_low : (kind : ℕ) → 1 ≤ kind → kind ≤ 5 → is_unknown true kind ≡ false
unfolding is_unknown is_append is_list_read ◌or◌ ◌and◌ pick
unknown_low kind l m =
    rw (
      ne_eqb kind 16 (λ e. omega arith),
      ne_eqb kind 23 (λ e. omega arith),
      ne_eqb kind 24 (λ e. omega arith),
      le-ltb kind 1 l,
      le-ltb 5 kind m,
    )

pub unknown_high : (kind : ℕ) → (kind ≡ 16 → ⊥) → 5 < kind → is_unknown true kind ≡ not (eqb kind 23 or eqb kind 24)
unfolding is_unknown is_append is_list_read ◌or◌ ◌and◌ pick
unknown_high kind d l =
    rw (ne_eqb kind 16 d, le-ltb kind 1 (omega arith), lt-ltb 5 kind l) (and-true (not (eqb kind 23 or eqb kind 24)) true refl)

-- outside of one length are all others
pub outside_one : (len n : ℕ) → not (eqb len n) ≡ (ltb len n or ltb n len)
unfolding ◌or◌
outside_one len n =
    ifso (eqb len n) (λ t. let q : len ≡ n = eqb-true len n t in rw (q, eq-eqb n n refl, le-ltb n n (omega arith)))
    (λ t.
    let d : len ≡ n → ⊥ = eqb-false len n t in
    rw t (ifso (ltb len n) (λ l. rw l) (λ l. rw (l, lt-ltb n len (omega (arith, ltb-false len n l))))))

-- the tables' lengths, of kinds below 16
misfit_table : (second : Bool) (kind len n : ℕ) → kind < 16 → is_misfit second kind len n ≡ (ltb len (get_or (lows second) kind 0) or ltb (get_or (highs second) kind 0) len)
unfolding is_misfit is_append is_list_read pick
misfit_table second kind len n l =
    rw (
      ne_eqb kind 16 (λ e. omega arith),
      ne_eqb kind 23 (λ e. omega arith),
      ne_eqb kind 24 (λ e. omega arith),
      and_no_right second false refl,
    )

-- all kinds but a note have one length
pub misfit_first : (kind len n : ℕ) → kind < 6 → not (eqb len (get_or (lengths false) kind 0)) ≡ is_misfit false kind len n
misfit_first kind len n h =
    rw (misfit_table false kind len n (omega arith), get_or-append (lengths false) (6 ∷ []) 0 kind h, get_or-append (lengths false) (70 ∷ []) 0 kind h)
    (outside_one len (get_or (lengths false) kind 0))

pub misfit_second : (kind len n : ℕ) → kind < 6 → not (eqb len (get_or (lengths true) kind 0)) ≡ is_misfit true kind len n
misfit_second kind len n h = rw (misfit_table true kind len n (omega arith)) (outside_one len (get_or (lengths true) kind 0))

pub misfit_note : (len n : ℕ) {kind : ℕ} → kind ≡ 6 → (ltb len 6 or ltb 70 len) ≡ is_misfit false kind len n
misfit_note len n {kind} e = rw (misfit_table false kind len n (omega arith), e)

-- that of kind 16, of an append, of a list read
pub misfit_edition : (second : Bool) (len n : ℕ) {kind : ℕ} → kind ≡ 16 → is_misfit second kind len n ≡ not (eqb len 8)
unfolding is_misfit pick
misfit_edition second len n e = rw e

pub misfit_append : (len n : ℕ) {kind : ℕ} → kind ≡ 23 → is_misfit true kind len n ≡ not (eqb len 20)
unfolding is_misfit is_append ◌and◌ pick
misfit_append len n e = rw e

pub misfit_list : (len n : ℕ) {kind : ℕ} → kind ≡ 24 → is_misfit true kind len n ≡ not (eqb len (14 + 8 * n))
unfolding is_misfit is_append is_list_read ◌and◌ pick
misfit_list len n e = rw e

pub edition-fits : (second : Bool) (kind len n : ℕ) → is_misfit second kind len n ≡ false → kind ≡ 16 → len ≡ 8
edition-fits second kind len n h e = eqb-true len 8 (not-false _ (sym (misfit_edition second len n e) ∙ h))

-- lengths that are this kind's: as long as the kind needs; in edition 2 at least one with a session
low_fits : (second : Bool) (kind len n : ℕ) → is_unknown second kind ≡ false → is_misfit second kind len n ≡ false → get_or (lows second) kind 0 ≤ len
low_fits second kind len n u h =
    ⊎_elim (λ (l : kind < 16). ltb-false _ _ (neither_left _ _ (sym (misfit_table second kind len n l) ∙ h))) (λ (l : 16 ≤ kind). high second kind l) (split kind 16)
  where
    few : (second : Bool) {kind : ℕ} → 16 ≤ kind → length (lows second) ≤ kind
    few true l = omega arith
    few false l = omega arith

    high : (second : Bool) (kind : ℕ) → 16 ≤ kind → get_or (lows second) kind 0 ≤ len
    high second kind l = omega (arith, get_or-eq_default (lows second) 0 (few second l))

pub fits-long : (second : Bool) (kind len n : ℕ) → is_unknown second kind ≡ false → is_misfit second kind len n ≡ false → LongEnough second kind len
fits-long second kind len n u h =
    record {
      low = low_fits second kind len n u h;
      append = λ e. let q = of_second (inl e) in (q, omega (arith, eqb-true len 20 (not-false _ (sym (misfit_append len n e) ∙ rw q at h))));
      list = λ e. let q = of_second (inr e) in (q, omega (arith, eqb-true len (14 + 8 * n) (not-false _ (sym (misfit_list len n e) ∙ rw q at h))));
    }
  where
    most : (second : Bool) → pick second 5 6 ≤ 6
    most second = pick_both (λ (m : ℕ). m ≤ 6) second (omega arith) (omega arith)

    of_second : ListKind kind → second ≡ true
    of_second k =
        ⊎_elim (λ l. absurd (⊎_elim (λ e. omega (arith, l.1, most second)) (λ e. omega (arith, l.1, most second)) k)) (λ l. l.0)
        (known_kind second kind u (λ e. ⊎_elim (λ z. omega arith) (λ z. omega arith) k))

least_session : (kind : ℕ) → 1 ≤ kind → kind ≤ 5 → 8 ≤ get_or (lows true) kind 0
least_session zero h l = absurd (omega arith)
least_session (suc zero) h l = omega arith
least_session (suc (suc zero)) h l = omega arith
least_session (suc (suc (suc zero))) h l = omega arith
least_session (suc (suc (suc (suc zero)))) h l = omega arith
least_session (suc (suc (suc (suc (suc zero))))) h l = omega arith
least_session (suc (suc (suc (suc (suc (suc n)))))) h l = absurd (omega arith)

session-fits : (kind len n : ℕ) → is_unknown true kind ≡ false → is_misfit true kind len n ≡ false → 8 ≤ len
session-fits kind len n u h =
    let f = fits-long true kind len n u h in
    ifso (eqb kind 16) (λ t. omega (arith, edition-fits true kind len n h (eqb-true kind 16 t)))
    (λ t.
    ⊎_elim (λ l. omega (arith, least_session kind l.0 (omega (arith, l.1)), f.low))
    (⊎_elim (λ e. omega (arith, (f.append e).1)) (λ e. omega (arith, (f.list e).1))) (kind-second kind u (eqb-false kind 16 t)))

-- the numbers of the rows that go by the kind, from the first
module _ (second : Bool) (s : List ℕ) (at : ℕ) {kind len : ℕ} (k : kind ≡ kind_at s at) (l : len ≡ len_at s at) where
  pub kind_off : is_unknown second kind ≡ true → 6 ≡ first_fit (kind_rows second s at)
  kind_off u = rw (← k, ← l) (fit_here _ _ _ u)

  module _ (u : is_unknown second kind ≡ false) where
    pub length_off : is_misfit second kind len (number_at s at) ≡ true → 4 ≡ first_fit (kind_rows second s at)
    length_off m = rw (← k, ← l) (fit_past _ _ _ u (fit_here _ _ _ m))

    module _ (m : is_misfit second kind len (number_at s at) ≡ false) where
      pub late : is_late kind at ≡ true → 7 ≡ first_fit (kind_rows second s at)
      late t = rw (← k, ← l) (fit_past _ _ _ u (fit_past _ _ _ m (fit_here _ _ _ t)))

      module _ (t : is_late kind at ≡ false) where
        pub edition_off : is_other_edition kind (le 2 s (at + 8)) ≡ true → 8 ≡ first_fit (kind_rows second s at)
        edition_off o = rw (← k, ← l) (fit_past _ _ _ u (fit_past _ _ _ m (fit_past _ _ _ t (fit_here _ _ _ o))))

        pub none_off : is_other_edition kind (le 2 s (at + 8)) ≡ false → 0 ≡ first_fit (kind_rows second s at)
        none_off o = rw (← k, ← l) (fit_past _ _ _ u (fit_past _ _ _ m (fit_past _ _ _ t (fit_past _ _ _ o fit_none))))

module _ (second : Bool) (s : List ℕ) (at e : ℕ) where
  -- the numbers of the framing's rows, from the first
  pub no_field : length s < at + 2 → 3 ≡ first_fit (frame_rows second s at e)
  unfolding frame_rows
  no_field a = fit_here _ _ _ (lt-ltb _ _ a)

  module _ (a : at + 2 ≤ length s) where
    pub too_small : len_at s at < 6 → 4 ≡ first_fit (frame_rows second s at e)
    unfolding frame_rows
    too_small b = fit_past _ _ _ (le-ltb _ _ a) (fit_here _ _ _ (lt-ltb _ _ b))

    module _ (b : 6 ≤ len_at s at) where
      pub cut_off : length s < next_at s at → 3 ≡ first_fit (frame_rows second s at e)
      unfolding frame_rows
      cut_off d = fit_past _ _ _ (le-ltb _ _ a) (fit_past _ _ _ (le-ltb _ _ b) (fit_here _ _ _ (lt-ltb _ _ d)))

      -- the three length checks pass
      module _ (d : next_at s at ≤ length s) where
        pub serial_off : breaks s at e ≡ true → 5 ≡ first_fit (frame_rows second s at e)
        unfolding frame_rows
        serial_off p = fit_past _ _ _ (le-ltb _ _ a) (fit_past _ _ _ (le-ltb _ _ b) (fit_past _ _ _ (le-ltb _ _ d) (fit_here _ _ _ p)))

        pub by_kind : {x : ℕ} → breaks s at e ≡ false → x ≡ first_fit (kind_rows second s at) → x ≡ first_fit (frame_rows second s at e)
        unfolding frame_rows
        by_kind p h = fit_past _ _ _ (le-ltb _ _ a) (fit_past _ _ _ (le-ltb _ _ b) (fit_past _ _ _ (le-ltb _ _ d) (fit_past _ _ _ p h)))

  -- what a framing that passes leaves of the record
  pub fit : first_fit (frame_rows second s at e) ≡ 0 → Fit second s at
  unfolding frame_rows
  fit h =
      let h1 = fit_unfit _ _ _ (omega arith) h in
      let h2 = fit_unfit _ _ _ (omega arith) h1.1 in
      let h3 = fit_unfit _ _ _ (omega arith) h2.1 in
      let h4 = fit_unfit _ _ _ (omega arith) h3.1 in
      let h5 = fit_unfit _ _ _ (omega arith) h4.1 in
      let h6 = fit_unfit _ _ _ (omega arith) h5.1 in
      record {
        six = ltb-false _ _ h2.0;
        room = ltb-false _ _ h3.0;
        long = fits-long _ _ _ _ h5.0 h6.0;
        session = λ q. session-fits _ _ _ (rw q at h5.0) (rw q at h6.0);
      }

  -- the framing's answer, from the number of the row
  pub framing_bad : {n : ℕ} → n ≡ first_fit (frame_rows second s at e) → 0 < n → Err n ≡ framing second s at e
  unfolding framing pick
  framing_bad q h = rw (q) (rw (lt-ltb 0 (first_fit (frame_rows second s at e)) (omega arith)) refl)

  pub framing_good : first_fit (frame_rows second s at e) ≡ 0 → Ok (stated_at second s at) ≡ framing second s at e
  unfolding framing pick
  framing_good h = rw h

  -- what the framing's answer says of the rows
  pub is_bad : {n : ℕ} → framing second s at e ≡ Err n → (first_fit (frame_rows second s at e) ≡ n) × (0 < n)
  unfolding framing
  is_bad {n} h =
      ifso (ltb 0 (first_fit (frame_rows second s at e)))
      (λ t.
      let g : Err (first_fit (frame_rows second s at e)) ≡ Err n = sym (pick_on _ _ _ t) ∙ h in
      let q : first_fit (frame_rows second s at e) ≡ n = cc in
      (q, rw (← q) (ltb-true _ _ t)))
      (λ t.
      let g : Ok (stated_at second s at) ≡ Err n = sym (pick_off _ _ _ t) ∙ h in
      let z : ◌≡◌ {A = ℕ} 0 1 = cc in
      absurd (omega arith))

  pub is_good : {x : Stated} → framing second s at e ≡ Ok x → (first_fit (frame_rows second s at e) ≡ 0) × (stated_at second s at ≡ x)
  unfolding framing
  is_good {x} h =
      ifso (ltb 0 (first_fit (frame_rows second s at e)))
      (λ t.
      let g : Err (first_fit (frame_rows second s at e)) ≡ Ok x = sym (pick_on _ _ _ t) ∙ h in
      let z : ◌≡◌ {A = ℕ} 0 1 = cc in
      absurd (omega arith))
      (λ t.
      let g : Ok (stated_at second s at) ≡ Ok x = sym (pick_off _ _ _ t) ∙ h in
      let z : first_fit (frame_rows second s at e) ≤ 0 = ltb-false _ _ t in
      (omega arith, cc))

  pub good_fit : {x : Stated} → framing second s at e ≡ Ok x → Fit second s at
  good_fit h = fit (is_good h).0

  -- its session is the one that its kind's reader finds in the payload, which in edition 2 begins with the session
  pub good_session : {x : Stated} → framing second s at e ≡ Ok x → x.session ≡ session_of second (payload_at s at) x.event
  good_session h = rw (← (is_good h).1)

  pub good_begins : {x : Stated} → framing second s at e ≡ Ok x → second ≡ true → le 2 (payload_at s at) 0 ≡ session_at s at
  good_begins h q = payload_begins s at ((good_fit h).session q)

  -- rows behind those of the framing: where it passed they decide, where not they do not matter
  counted : RowsCounted (frame_rows second s at e)
  unfolding frame_rows RowsCounted
  counted = (omega arith, (omega arith, (omega arith, (omega arith, (omega arith, (omega arith, (omega arith, (omega arith, tt))))))))

  pub behind : (k : List Row) → first_fit (frame_rows second s at e) ≡ 0 → first_fit (frame_rows second s at e ++ k) ≡ first_fit k
  behind k h = fit_behind (frame_rows second s at e) k counted h
