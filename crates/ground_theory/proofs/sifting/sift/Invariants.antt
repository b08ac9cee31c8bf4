use Rattle.std.proofs.Common.{◌≡◌, ◌++◌, drop}
use Rattle.ground_theory.specs.inner.Sifting.{gathered, same_of, other_of, null_of, firm_of, bound_of}
use Rattle.ground_theory.proofs.sifting.sift.Given as goal

abbrev pub invariant-loop-number : goal.invariant-loop-number
invariant-loop-number l = record {
  sames : l.sifted.sames.items ++ gathered same_of l.number (drop l.number l.literals) ≡ gathered same_of 0 l.literals;
  others : l.sifted.others.items ++ gathered other_of l.number (drop l.number l.literals) ≡ gathered other_of 0 l.literals;
  nulls : l.sifted.nulls.items ++ gathered null_of l.number (drop l.number l.literals) ≡ gathered null_of 0 l.literals;
  firms : l.sifted.firms.items ++ gathered firm_of l.number (drop l.number l.literals) ≡ gathered firm_of 0 l.literals;
  bounds : l.sifted.bounds.items ++ gathered bound_of l.number (drop l.number l.literals) ≡ gathered bound_of 0 l.literals;
}
