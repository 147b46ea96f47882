use Rattle.record_form.proofs.KeyOrders.{keeps_order}
use Rattle.record_form.proofs.laws.order_bytes_keep_cell_order.Goals as goal

pub returns : goal.returns
returns c = keeps_order
