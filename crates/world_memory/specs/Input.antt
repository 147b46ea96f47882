-- What is left of an input, and which of its takings are to fail.
use Rattle.std.specs.Prelude.{ℕ, drop, option_map}
use Rattle.cell_world.specs.Texts.{Text}
use Rattle.world_memory.specs.declared.source.MemorySource.{MemorySource}
use Rattle.world_memory.specs.Takings.{Takings}

abbrev pub left_in : MemorySource → Text
left_in s = drop s.taken s.bytes.items

-- how often taking has failed
abbrev pub faults_in : MemorySource → ℕ
faults_in s = s.faults

abbrev pub takings_of : MemorySource → Takings
takings_of s = record { failing = option_map (λ numbers. numbers.items) s.failing; made = s.calls }
