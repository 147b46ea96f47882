-- The outside that a world in memory is, and which of its calls are to fail.
use Rattle.cell_world.specs.Outside.{Outside}
use Rattle.world_memory.specs.Told.{trail_from, tells}
use Rattle.world_memory.specs.declared.faults.Faults.{Faults}
use Rattle.world_memory.specs.declared.world.MemoryWorld.{MemoryWorld}

abbrev pub outside_of : MemoryWorld → Outside
outside_of w = tells w.locations.items (trail_from w.locations.items w.happened.items w.start) w.failed.items w.sink w.reads

-- the plan, and how often each call was made since it was given
abbrev pub faults_of : MemoryWorld → Faults
faults_of w = w.faults
