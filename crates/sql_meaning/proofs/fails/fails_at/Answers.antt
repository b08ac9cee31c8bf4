use Rattle.sql_meaning.proofs.fails.fails_at.Goals as goal

pub returns-in-OneRow : goal.returns-in-OneRow
returns-in-OneRow c = rw (c.in-OneRow.is) (c.fails_one_row.ensures c.args.given.now)

pub returns-in-Empty : goal.returns-in-Empty
returns-in-Empty c = rw (c.in-Empty.is) (c.fails_empty.ensures c.args.given.now)

pub returns-in-NeedlessDistinct : goal.returns-in-NeedlessDistinct
returns-in-NeedlessDistinct c = rw (c.in-NeedlessDistinct.is) (c.fails_needless_distinct.ensures c.args.given.now)

pub returns-in-Duplicate : goal.returns-in-Duplicate
returns-in-Duplicate c = rw (c.in-Duplicate.is) (c.fails_duplicate.ensures c.args.given.now)

pub returns-in-NeedlessJoin : goal.returns-in-NeedlessJoin
returns-in-NeedlessJoin c = rw (c.in-NeedlessJoin.is) (c.fails_needless_join.ensures c.args.given.now)

pub returns-in-Implied : goal.returns-in-Implied
returns-in-Implied c = rw (c.in-Implied.is) (c.fails_implied.ensures c.args.given.now)

pub returns-in-Impossible : goal.returns-in-Impossible
returns-in-Impossible c = rw (c.in-Impossible.is) (c.fails_impossible.ensures c.args.given.now)

pub returns-in-SameRow : goal.returns-in-SameRow
returns-in-SameRow c = rw (c.in-SameRow.is) (c.fails_same_row.ensures c.args.given.now)

pub returns : goal.returns
returns c = rw (c.in-NullInNotIn.is) (c.fails_null_in_not_in.ensures c.args.given.now)
