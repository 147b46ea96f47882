use Rattle.map_ops.proofs.SpanReadings.{of_kind, no_map_of_addpoint, wrong_kind_of_addpoint, point_reads}
use Rattle.map_ops.proofs.adding.new_point.Goals as goal

pub returns-in-None-clause-reads : goal.returns-in-None-clause-reads
returns-in-None-clause-reads c at = no_map_of_addpoint c.args.known.now c.args.name.now c.map.result c.map.ensures c.args.text.now at c.in-None.is

pub returns-in-Some-Range-default-clause-reads : goal.returns-in-Some-Range-default-clause-reads
returns-in-Some-Range-default-clause-reads c at =
    wrong_kind_of_addpoint c.args.known.now c.args.name.now c.map.result c.map.ensures c.args.text.now at c.in-Some-Range-default.field-0-1
    (of_kind c.map.result c.in-Some-Range-default.field-0-0 _ c.in-Some-Range-default.field-0-1 c.in-Some-Range-default.is c.in-Some-Range-default.field-0-0-is)

pub returns-in-Some-List-default-clause-reads : goal.returns-in-Some-List-default-clause-reads
returns-in-Some-List-default-clause-reads c at =
    point_reads c.args.known.now c.args.name.now c.map.result c.map.ensures c.args.text.now at c.in-Some-List-default.key_type
    (of_kind c.map.result c.in-Some-List-default.field-0-0 _ c.in-Some-List-default.key_type c.in-Some-List-default.is c.in-Some-List-default.field-0-0-is)
    c.point_at.result c.point_at.ensures.point c.point_at.ensures.span
