use Rattle.std.proofs.Common.{◌≡◌, ◌∙◌, ◌+◌, suc, length, arith, sym, ap, subst, add-one, ℕ, List, refl, ◌++◌, ◌∷◌, []}
use Rattle.std.proofs.lemmas.List.{length_push, length-replicate}
use Rattle.std.proofs.lemmas.Option.{slice_get_read}
use Rattle.std.specs.Prelude.{Some, slice_get}
use Rattle.ground_theory.specs.declared.literal.Guard.{Guard}
use Rattle.proof_cert.specs.inner.Ranks.{slot_of, IsCounted, AreCounts, AreFirstRanks}
use Rattle.proof_cert.proofs.Ranking.{counts_low, counted_more, ranked_more, ranked_all, no_counts}
use Rattle.proof_cert.proofs.ranks.ranks_of.Goals as goal

pub loop-clause-init : goal.loop-clause-init
loop-clause-init c =
    let zeros = c.in_ok-counts.ensures.items_if_clones_equal (λ y same. same) in
    record {
      as_many = ap length c.new-ranks.ensures.items;
      slots = ap length zeros ∙ length-replicate (length c.args.clauses.now + 1) 0;
      counts = no_counts c.args.clauses.now c.in_ok-counts.counts.items zeros;
      ranks = λ number slot x low. absurd (omega arith);
    }

pub rank-rank-requires : goal.rank-rank-requires
rank-rank-requires c =
    let inv = c.loop-clause.invariant in
    counts_low c.args.clauses.now c.loop-clause.counts.items c.loop-clause.clause-index c.loop-clause-test.true c.requires inv.slots inv.counts

pub loop-clause-preserved : goal.loop-clause-preserved
loop-clause-preserved c =
    let clauses = c.args.clauses.now in
    let i = c.loop-clause.clause-index in
    let x = c.clause-item.result in
    let inv = c.loop-clause.invariant in
    let old = c.loop-clause.counts.items in
    let new = c.rank-rank.new.counts.items in
    let at : slice_get clauses i ≡ Some x = slice_get_read clauses (length clauses) i x refl c.loop-clause-test.true c.clause-item.is in
    let counted : IsCounted (slot_of x.guards) old new c.rank-rank.result = subst (λ (gs : List Guard). IsCounted (slot_of gs) old new c.rank-rank.result) c.as_slice.ensures c.rank-rank.ensures in
    let more = counted_more clauses i x at old new c.rank-rank.result inv.slots inv.counts counted in
    let e : suc i ≡ i + 1 = sym (add-one i) in
    record {
      as_many = ap length c.in_ok-push.ensures.items ∙ (length_push c.loop-clause.ranks.items c.rank-rank.result ∙ ap (λ n. n + 1) inv.as_many);
      slots = more.1;
      counts = subst (λ n. AreCounts clauses n new) e more.0;
      ranks = subst (λ (rs : List ℕ). AreFirstRanks clauses (i + 1) rs) (sym c.in_ok-push.ensures.items)
          (subst (λ n. AreFirstRanks clauses n (c.loop-clause.ranks.items ++ c.rank-rank.result ∷ [])) e
          (ranked_more clauses i x at old new c.rank-rank.result c.loop-clause.ranks.items inv.as_many inv.counts counted inv.ranks));
    }

pub returns : goal.returns
returns c = ranked_all c.args.clauses.now c.loop-clause.ranks.items c.loop-clause.clause-index c.loop-clause-test.false c.loop-clause.invariant.ranks
