-- What an exchange of the program stands for.
use Rattle.cell_world.specs.Spelled.{listed}
use Rattle.plain_model.specs.Steps.{Exchange as OldsAndNews}
use Rattle.plain_tables.specs.declared.exchanges.Exchange.{Exchange}

-- its old mappings and its new ones
abbrev pub pieces_of : Exchange → OldsAndNews
pieces_of e = (listed e.olds, listed e.news)
