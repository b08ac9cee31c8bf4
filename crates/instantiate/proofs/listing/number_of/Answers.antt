use Rattle.std.proofs.Common.{arith}
use Rattle.instantiate.proofs.Listed.{sum_is, number_fits}
use Rattle.instantiate.proofs.Numbering.{key_of}
use Rattle.instantiate.proofs.listing.number_of.Goals as goal

pub overflow_add-result : goal.overflow_add-result
overflow_add-result c =
    let sum = sum_is c.args.listing.now c.requires.ready c.args.sentence c.args.node c.args.rows.now c.as_slice.result.now c.as_slice-2.result.now c.base_of-base.result c.index_of-index.result c.requires.listed
    c.as_slice.ensures c.as_slice-2.ensures c.base_of-base.ensures c.index_of-index.ensures in
    let fits = number_fits c.args.listing.now c.requires.ready (key_of c.args.sentence c.args.node c.args.rows.now) c.requires.listed in
    omega arith

pub overflow_cast-result : goal.overflow_cast-result
overflow_cast-result c =
    let sum = sum_is c.args.listing.now c.requires.ready c.args.sentence c.args.node c.args.rows.now c.as_slice.result.now c.as_slice-2.result.now c.base_of-base.result c.index_of-index.result c.requires.listed
    c.as_slice.ensures c.as_slice-2.ensures c.base_of-base.ensures c.index_of-index.ensures in
    let fits = number_fits c.args.listing.now c.requires.ready (key_of c.args.sentence c.args.node c.args.rows.now) c.requires.listed in
    omega arith

pub returns : goal.returns
returns c =
    sum_is c.args.listing.now c.requires.ready c.args.sentence c.args.node c.args.rows.now c.as_slice.result.now c.as_slice-2.result.now c.base_of-base.result c.index_of-index.result c.requires.listed
    c.as_slice.ensures c.as_slice-2.ensures c.base_of-base.ensures c.index_of-index.ensures
