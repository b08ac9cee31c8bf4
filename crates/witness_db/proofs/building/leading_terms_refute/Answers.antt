use Rattle.witness_db.proofs.Refuting.{all_refuted}
use Rattle.witness_db.proofs.building.leading_terms_refute.Goals as goal

pub returns : goal.returns
returns c = λ schema problem choices a case db places made query fits question asked given at.
    let domains = c.databases_are_of_domains.ensures schema problem case.problem_is choices a case.assigned db places made in
    all_refuted schema problem (c.clauses_hang_together.ensures schema problem case.problem_is case.closed) (c.plain_nodes_are_numbered.ensures schema problem case.problem_is) choices case.full a case.assigned case.satisfied db places made query given
    (record {
      says = λ question asked unjoined places lead. c.leading_rows_refute.ensures schema db domains query fits question asked unjoined given places lead;
      no_row = λ entry asked places lead. c.rows_of_a_join_refute.ensures.no_row schema db domains query fits entry asked given places lead;
      these_two = λ entry asked places lead without x y first second fitting.
          c.rows_of_a_join_refute.ensures.these_two schema db domains query fits entry asked given places lead without x y first second fitting;
    })
    question asked at
