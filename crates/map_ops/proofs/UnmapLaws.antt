-- The change of `unmap`, made of the copy of the tables.
use Rattle.std.proofs.Common.{◌≡◌, Bool, true, false, cond, inl, inr, List, [], ◌∷◌, map, refl, sym, ap, ◌∙◌, subst}
use Rattle.cell_world.specs.Texts.{Text}
use Rattle.cell_world.specs.Keys.{same}
use Rattle.cell_world.specs.Lists.{IsOneOf}
use Rattle.cell_world.specs.Members.{members}
use Rattle.cell_world.specs.Orders.{pair_cmp}
use Rattle.cell_world.specs.Stores.{Store}
use Rattle.cell_world.specs.Sound.{HasTable}
use Rattle.cell_world.specs.declared.changes.Edit.{Edit}
use Rattle.cell_world.proofs.OrderLaws.{pairs_total, exact_text_pairs}
use Rattle.cell_world.proofs.SpanLaws.{same_self}
use Rattle.image_laws.specs.Catalogs.{table_deletes, unmap_edits}
use Rattle.global_tables.specs.Known.{Known, known_of, table_row}
use Rattle.global_tables.proofs.Entries.{member_there}
use Rattle.plain_model.specs.OnTrail.{logs_put}
use Rattle.map_ops.specs.Changes.{tables_named}

-- a table of the map is among those that are named
named_there : (name : Text) (pairs : List (Text × Text)) (table : Text) → IsOneOf pairs (name, table) → IsOneOf (tables_named name (map table_row pairs)) table
named_there name [] table h = absurd h
named_there name (p ∷ ps) table (inl is) = subst (λ (b : Bool). IsOneOf (cond b (p.1 ∷ tables_named name (map table_row ps)) (tables_named name (map table_row ps))) table)
    (sym (ap (λ (q : Text × Text). same name q.0) is ∙ same_self name)) (inl (ap (λ (q : Text × Text). q.1) is))
named_there name (p ∷ ps) table (inr more) = by (same name p.0) (named_there name ps table more)
  where
    by : (b : Bool) → IsOneOf (tables_named name (map table_row ps)) table → IsOneOf (cond b (p.1 ∷ tables_named name (map table_row ps)) (tables_named name (map table_row ps))) table
    by true h = inr h
    by false h = h

-- Each table of the map stands in the copy.
pub tables_there : (known : Known) (s : Store) (name : Text) → known ≡ known_of s → (table : Text) → HasTable s.tables name table → IsOneOf (tables_named name known.tables) table
tables_there known s name copy table has = subst (λ (k : Known). IsOneOf (tables_named name k.tables) table) (sym copy)
    (named_there name (members s.tables) table (member_there pair_cmp pairs_total exact_text_pairs s.tables (name, table) has))

no_deleted : (name : Text) (tables : List Text) → logs_put (table_deletes name tables) ≡ []
no_deleted name [] = refl
no_deleted name (table ∷ tables) = no_deleted name tables

-- No log cell is put.
pub unmap_logs : (name : Text) (tables : List Text) (change : List Edit) → change ≡ unmap_edits name tables → logs_put change ≡ []
unmap_logs name tables change is = ap logs_put is ∙ no_deleted name tables
