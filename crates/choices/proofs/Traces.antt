-- For any bytes: a trace is accepted exactly if it is so with some choice of outcomes in place of each status 2.
use Prim.Native.Nat.{ℕ, ◌<◌, ◌≤◌}
use mathlib.Core.Path.{◌≡◌, refl, ap, sym, ◌∙◌}
use mathlib.Core.Bool.{Bool}
use mathlib.Core.List.{List}
use mathlib.Core.Logic.{◌↔◌}
use native.Mathlib.Omega.{arith}
use Rattle.base.specs.Base.{count}
use Rattle.base.proofs.Searches.{count_under}
use Rattle.theory.proofs.Entries.{number_one}
use Rattle.rules.specs.History.{History, size, committed}
use Rattle.rules.specs.Reading.{Reading, refused, read, reading}
use Rattle.demand1.specs.Lawful.{LawfulHistory}
use Rattle.demand1.specs.Rows.{ReadInto, HasHistory}
use Rattle.demand1.proofs.Lawful.{lawful_history}
use Rattle.demand1.proofs.Readings.{reads_iff, has_history, has_read, read_has}
use Rattle.demand2.specs.Accepted.{Accepts}
use Rattle.demand2.proofs.Counts.{counts_iff}
use Rattle.demand2.proofs.Accepted.{committed-number}
use Rattle.choices.specs.Choices.{chosen, chosen_reading, chosen_bytes, Answered}
use Rattle.choices.specs.Accepting.{TraceAccepted, TraceByChoice}
use Rattle.choices.proofs.Chosen.{chosen_lawful}
use Rattle.choices.proofs.Alike.{Within, clean_within, order_within}
use Rattle.choices.proofs.Histories.{smallest_within, within_smallest}
use Rattle.choices.proofs.Bytes.{answered-is, answered-reading}

-- where fewer count, what is accepted with more is accepted, and its order needs no more room
accepts_within : {h g : History} → LawfulHistory h → LawfulHistory g → Within h g → {level n room : ℕ} → Accepts g level n room
    → Accepts h level (count 0 (size h) (committed h)) room
accepts_within {h} {g} okh okg w {n = n} a =
    record {
      clean = clean_within w a.clean;
      ordered = order_within w okh a.clean a.ordered;
      each = committed-number okh;
      fits = omega (arith, a.fits, fewer, number_one ◌<◌ (λ i j x y. omega arith) (committed-number okg) a.each);
    }
  where
    fewer : count 0 (size h) (committed h) ≤ count 0 (size g) (committed g)
    fewer =
        rw (← w.alike.txs)
        (count_under (committed h) (committed g) (size h) 0 (λ i x y t. (counts_iff okg i).1 (w.counts ((counts_iff okh i).0 t))))

module _ (s : List ℕ) (level room : ℕ) where
  -- the trace with a choice is read into the chosen history
  pub reads_chosen : (f : ℕ → Bool) {b : List ℕ} → Answered f s b → {h : History} {notes : ℕ} → ReadInto s h notes
      → ReadInto b (chosen f h) notes
  unfolding chosen_reading
  reads_chosen f {b} x {h} {notes} r =
      (reads_iff b (chosen f h) notes).0 (answered-reading f s x ∙ ap (chosen_reading f) ((reads_iff s h notes).1 r))

  -- and what it is read into is a choice of what the trace is read into
  chosen_reads : (f : ℕ → Bool) {b : List ℕ} → Answered f s b → {g : History} → HasHistory b g → (h : History) × HasHistory s h × (chosen f h ≡ g)
  unfolding chosen_reading
  chosen_reads f x {g} r = go (reading s) refl (sym (answered-reading f s x) ∙ read_has r)
    where
      go : (q : Reading) → reading s ≡ q → chosen_reading f q ≡ read g r.notes → (h : History) × HasHistory s h × (chosen f h ≡ g)
      go (refused n p) e c = let z : ◌≡◌ {A = ℕ} 0 1 = cc in absurd (omega arith)
      go (read h notes) e c = let a : chosen f h ≡ g = cc in (h, has_read e, a)

  smallest_choice : TraceAccepted s level room → TraceByChoice s level room
  smallest_choice t =
      let a = t.accepts in
      let h = a.history in
      let f = committed h in
      let ok = lawful_history a.reads in
      let x = answered-is f s in
      record {
        choice = f;
        bytes = chosen_bytes f s;
        answered = x;
        accepted =
            record {
              number = _;
              accepts =
                  record {
                    low = a.low;
                    high = a.high;
                    history = chosen f h;
                    reads = has_history (reads_chosen f x a.reads.reads);
                    accepts = accepts_within (chosen_lawful f h ok) ok (within_smallest ok) a.accepts;
                  };
            };
      }

  some_choice : TraceByChoice s level room → TraceAccepted s level room
  some_choice t =
      let f = t.choice in
      let a = t.accepted.accepts in
      let r = chosen_reads f t.answered a.reads in
      let h = r.0 in
      let ok = lawful_history r.1 in
      let x : Accepts (chosen f h) level t.accepted.number room = rw r.2 a.accepts in
      record {
        number = _;
        accepts =
            record {
              low = a.low;
              high = a.high;
              history = h;
              reads = r.1;
              accepts = accepts_within ok (chosen_lawful f h ok) (smallest_within ok f x.clean) x;
            };
      }

  -- "a trace is accepted exactly if some choice of outcomes for the unanswered ones makes it accepted"
  pub trace-by_choice_iff : TraceAccepted s level room ↔ TraceByChoice s level room
  trace-by_choice_iff = (smallest_choice, some_choice)
