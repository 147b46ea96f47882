use Rattle.map_ops.proofs.SpanReadings.{of_kind, no_map_of_add, wrong_kind_of_add, range_reads}
use Rattle.map_ops.proofs.adding.new_range.Goals as goal

pub returns-in-None-clause-reads : goal.returns-in-None-clause-reads
returns-in-None-clause-reads c at = no_map_of_add c.args.known.now c.args.name.now c.map.result c.map.ensures c.args.low.now c.args.high.now at c.in-None.is

pub returns-in-Some-List-default-clause-reads : goal.returns-in-Some-List-default-clause-reads
returns-in-Some-List-default-clause-reads c at =
    wrong_kind_of_add c.args.known.now c.args.name.now c.map.result c.map.ensures c.args.low.now c.args.high.now at c.in-Some-List-default.field-0-1
    (of_kind c.map.result c.in-Some-List-default.field-0-0 _ c.in-Some-List-default.field-0-1 c.in-Some-List-default.is c.in-Some-List-default.field-0-0-is)

pub returns-in-Some-Range-default-clause-reads : goal.returns-in-Some-Range-default-clause-reads
returns-in-Some-Range-default-clause-reads c at =
    range_reads c.args.known.now c.args.name.now c.map.result c.map.ensures c.args.low.now c.args.high.now at c.in-Some-Range-default.key_type
    (of_kind c.map.result c.in-Some-Range-default.field-0-0 _ c.in-Some-Range-default.key_type c.in-Some-Range-default.is c.in-Some-Range-default.field-0-0-is)
    c.range_between.result c.range_between.ensures.range c.range_between.ensures.span
