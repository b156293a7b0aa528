-- Claims and the judge: the order that it shows gets a yes, and a trace that it rejects gets a no for every claim.
use Prim.Native.Nat.{ℕ, ◌≤◌}
use mathlib.Core.Path.{◌≡◌, ap, ◌∙◌}
use mathlib.Core.List.{List}
use mathlib.Core.Logic.{◌↔◌}
use lib.ListN.{length, take}
use Rattle.rules.specs.History.{History}
use Rattle.rules.specs.Numbers.{over}
use Rattle.rules.specs.Outcome.{rejecting, accepting, judged}
use Rattle.rules.proofs.Numbers.{over-front}
use Rattle.demand1.proofs.Lawful.{lawful_history}
use Rattle.demand1.proofs.Readings.{history_one, one_outcome}
use Rattle.demand2.proofs.Accepted.{has_order_iff, shown_length, committed-number}
use Rattle.demand2.proofs.Traces.{accepted_trace, order-trace}
use Rattle.demand3.specs.Rejected.{RejectsTrace}
use Rattle.demand3.proofs.Traces.{no_fault_iff, rejected_trace}
use Rattle.decided.specs.Strongest.{LevelAccepts}
use Rattle.claims_rules.specs.Claims.{Reply, holds, claimed}
use Rattle.claims_laws.specs.Claims.{ClaimSays, right, wrong_read, wrong_members, wrong_pair, Claims, no_level, reading_refused, of_history, IsNo, for_read, for_members, for_pair}
use Rattle.claims_laws.proofs.Claims.{claims}
use Rattle.claims_laws.proofs.Yes.{yes_iff}

-- a level accepts a trace exactly if some claim gets a yes
pub some_yes_iff : (s : List ℕ) (level : ℕ) → LevelAccepts s level ↔ ((o : List ℕ) × (claimed s level o ≡ holds))
some_yes_iff s level = (
  λ a.
      let x = (has_order_iff (lawful_history a.reads) a.low a.high a.clean).0 a.ordered in
      (x.0, (yes_iff s level x.0).1 (record { low = a.low; high = a.high; history = a.history; reads = a.reads; clean = a.clean; shows = x.1 })),
  λ y.
      let r = (yes_iff s level y.0).0 y.1 in
      record {
        low = r.low;
        high = r.high;
        history = r.history;
        reads = r.reads;
        clean = r.clean;
        ordered = (has_order_iff (lawful_history r.reads) r.low r.high r.clean).1 (y.0, r.shows);
      },
)

module _ (s : List ℕ) (level : ℕ) (fs ps os : List ℕ) where
  -- what is shown on acceptance: the first bytes of the order's buffer, as many as are answered
  pub shown_right : {n : ℕ} → (judged s level fs ps os).report ≡ accepting n → claimed s level (take n (judged s level fs ps os).order) ≡ holds
  shown_right {n} e =
      let a = (accepted_trace s level fs ps os n).0 e in
      let w = order-trace s level fs ps os a in
      let t : take n (judged s level fs ps os).order ≡ w.shown =
      ap (λ (l : List ℕ). take n l) w.order ∙ ap (λ (k : ℕ). take k (over w.shown os)) w.long ∙ over-front w.shown os in
      rw t
      ((yes_iff s level w.shown).1
      (record { low = a.low; high = a.high; history = a.history; reads = a.reads; clean = a.accepts.clean; shows = w.first.shows }))

  -- so a trace that is accepted has some yes; and one that has a yes is accepted, wherever there is room for an order
  pub yes_accepted : (o : List ℕ) → length o ≤ length os → claimed s level o ≡ holds → (judged s level fs ps os).report ≡ accepting (length o)
  yes_accepted o l e =
      let r = (yes_iff s level o).0 e in
      let ok = lawful_history r.reads in
      (accepted_trace s level fs ps os (length o)).1
      (record {
        low = r.low;
        high = r.high;
        history = r.history;
        reads = r.reads;
        accepts =
            record {
              clean = r.clean;
              ordered = (has_order_iff ok r.low r.high r.clean).1 (o, r.shows);
              each = rw (shown_length ok r.low r.high r.clean r.shows) (committed-number ok);
              fits = l;
            };
      })

  -- a trace that is rejected
  module _ {f p : ℕ} (e : (judged s level fs ps os).report ≡ rejecting f p) where
    pub rejected_no : (o : List ℕ) → IsNo (claimed s level o)
    rejected_no o = of (claims s level o)
      where
        r : RejectsTrace s level f p (length fs) (length ps)
        r = (rejected_trace s level fs ps os f p).0 e

        said : {h : History} {x : Reply} → h ≡ r.history → ClaimSays h level o x → IsNo x
        said q (right c y) =
            let ok = lawful_history r.reads in
            absurd
            ((no_fault_iff ok r.low r.high).1 (rw q at c, (has_order_iff ok r.low r.high (rw q at c)).1 (o, rw q at y)) r.rejects.fault)
        said q (wrong_read x) = for_read
        said q (wrong_members c w) = for_members
        said q (wrong_pair c l x) = for_pair

        of : {x : Reply} → Claims s level o x → IsNo x
        of (no_level d) = absurd (d (r.low, r.high))
        of (reading_refused a b x) = absurd ((one_outcome s).not_both _ _ _ _ x r.reads.reads)
        of (of_history a b i x) = said (history_one i r.reads) x
