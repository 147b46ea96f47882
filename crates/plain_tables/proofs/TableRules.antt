-- The laws of tables and sets at the orders that the program has.
use Rattle.std.proofs.Common.{◌≡◌, ℕ, length, ap, ◌∙◌}
use Rattle.std.specs.FinMap as fin
use Rattle.std.specs.FinSet as set
use Rattle.std.specs.Ordering.{nat_cmp}
use Rattle.std.specs.BTreeMap.{BTreeMap, get, IsOrdered}
use Rattle.std.specs.BTreeSet.{BTreeSet, contains}
use Rattle.std.specs.BTreeSet as tree_set
use Rattle.std.proofs.lemmas.Cmp.{nat_list_cmp_total, nat_cmp_total}
use Rattle.cell_world.specs.Texts.{Text}
use Rattle.cell_world.specs.ByteOrder.{byte_cmp}
use Rattle.cell_world.specs.Orders.{pair_cmp, row_cmp}
use Rattle.cell_world.specs.declared.cells.RowName.{RowName}
use Rattle.cell_world.proofs.OrderLaws.{pairs_total, rows_total, exact_text_pairs}
use Rattle.cell_world.specs.Members.{members}
use Rattle.plain_tables.specs.Tables.{table, keys_in}
use Rattle.plain_tables.proofs.TableLaws.{get-table, entries-table}
use Rattle.plain_tables.proofs.SetLaws.{contains-keys_in, members-keys_in}

module _ {X : Type 0} where
  pub get_text : (m : BTreeMap Text X) (q : Text) → fin.get (table byte_cmp m) q ≡ get byte_cmp m q
  get_text = get-table nat_list_cmp_total

  pub get_pair : (m : BTreeMap (Text × Text) X) (q : Text × Text) → fin.get (table pair_cmp m) q ≡ get pair_cmp m q
  get_pair = get-table pairs_total

  pub get_row : (m : BTreeMap RowName X) (q : RowName) → fin.get (table row_cmp m) q ≡ get row_cmp m q
  get_row = get-table rows_total

  pub entries_pair : (m : BTreeMap (Text × Text) X) → IsOrdered pair_cmp m → fin.entries (table pair_cmp m) ≡ m.entries
  entries_pair = entries-table pairs_total

  pub entries_row : (m : BTreeMap RowName X) → IsOrdered row_cmp m → fin.entries (table row_cmp m) ≡ m.entries
  entries_row = entries-table rows_total

  pub entries_number : (m : BTreeMap ℕ X) → IsOrdered nat_cmp m → fin.entries (table nat_cmp m) ≡ m.entries
  entries_number = entries-table nat_cmp_total

  -- how many
  pub len_text : (m : BTreeMap Text X) → IsOrdered byte_cmp m → fin.len (table byte_cmp m) ≡ length m.entries
  len_text m h = fin.len-entries (table byte_cmp m) ∙ ap length (entries-table nat_list_cmp_total m h)

pub contains_pair : (s : BTreeSet (Text × Text)) (q : Text × Text) → set.contains (keys_in pair_cmp s) q ≡ contains pair_cmp s q
contains_pair = contains-keys_in pairs_total

pub members_pair : (s : BTreeSet (Text × Text)) → tree_set.IsOrdered pair_cmp s → members (keys_in pair_cmp s) ≡ s.keys
members_pair = members-keys_in pairs_total exact_text_pairs

pub ruleset look_ups = (get_text, get_pair, get_row, entries_pair, entries_row, entries_number, len_text, contains_pair, members_pair)
