-- The copy of the tables with which a command is planned: what the core has, or what is read.
use Rattle.std.proofs.Common.{◌≡◌, ℕ, refl, sym, ◌∙◌, Option, Some, None, []}
use Rattle.std.specs.Prelude.{IfSome}
use Rattle.cell_world.specs.Images.{global, image_at, end_of_trail}
use Rattle.cell_world.specs.Outside.{Outside, Told, TellsNothing, TellsContents, TellsTrail, IfContents, IsLater, StoreRoseBy}
use Rattle.cell_world.specs.declared.operations.Op.{Op}
use Rattle.cell_world.proofs.ContentsLaws.{contents_both, contents_weaker}
use Rattle.global_tables.specs.Known.{Known, known_of}
use Rattle.operation_laws.specs.Left.{left_of}
use Rattle.plain_model.specs.declared.commands.Command.{Command}
use Rattle.plain_model.specs.declared.replies.Reply.TheVariants as reply
use Rattle.session_laws.specs.Doing.{AllDoing, Resting, IsThen, live_of}
use Rattle.manager_core.specs.declared.coming.Came.{Came}
use Rattle.manager_core.specs.Answering.{IsCopy}
use Rattle.manager_core.specs.Coming.{ComesOfAsking, IsTidied, SettleStep, reply_of}
use Rattle.manager_core.specs.Concluding.{ComesWithTables}
use Rattle.manager_core.specs.Steady.{AreSteady, Becomes, IsSettledOp}
use Rattle.manager_core.proofs.AskedEvents.{comes_after, comes_later}
use Rattle.manager_core.proofs.TidyLaws.{tidied_back}

-- ---- what the cells say

-- what the global cells say, where contents are told
abbrev pub told_known : Told → Known
told_known TellsNothing = record { maps = []; shards = []; tables = []; away = []; jobs = [] }
told_known (TellsContents image) = known_of (global image)
told_known (TellsTrail trail) = known_of (global (image_at trail (end_of_trail trail)))

pub told_is_copy : (told : Told) → IsCopy (told_known told) told
told_is_copy TellsNothing = tt
told_is_copy (TellsContents image) = refl
told_is_copy (TellsTrail trail) = refl

-- what the core has, or else that
abbrev pub known_or : Option Known → Told → Known
known_or (Some known) told = known
known_or None told = told_known told

pub known_or_is_copy : (known : Option Known) (told : Told) → IfSome known (λ k. IsCopy k told) → IsCopy (known_or known told) told
known_or_is_copy (Some known) told is = is
known_or_is_copy None told is = told_is_copy told

pub keeps_known : (known : Option Known) (told : Told) → IfSome known (λ k. k ≡ known_or known told)
keeps_known (Some known) told = refl
keeps_known None told = tt

pub none_keeps : (known : Option Known) (k : Known) → known ≡ None → IfSome known (λ x. x ≡ k)
none_keeps None k is = tt
none_keeps (Some x) k is = absurd cc

-- what holds of a copy holds of the one that there is
pub if_some : (known : Option Known) (P Q : Known → Type 0) → ((k : Known) → P k → Q k) → IfSome known P → IfSome known Q
if_some (Some known) P Q goes p = goes known p
if_some None P Q goes p = tt

-- ---- settling leaves the copy

-- what is a copy after a part of an event that leaves what the stores stand for was one before
copy_back : (session : ℕ) (before mid : AllDoing) (old now : Outside) → Becomes old now before mid → AreSteady before old → IsTidied (SettleStep (before session)) old.told now.told → (copy : Known) → IsCopy copy now.told → IsCopy copy old.told
copy_back session before mid old now part steady tidied copy is =
    let said = told_known old.told in
    let same = tidied_back (SettleStep (before session)) old.told now.told tidied (λ image. copy ≡ said) (λ image. (copy ≡ known_of (global image)) × (said ≡ known_of (global image))) (λ image later both means next. both.0 ∙ sym both.1)
    (contents_both now.told (λ image. copy ≡ known_of (global image)) (λ image. said ≡ known_of (global image)) is (part.copy said steady (told_is_copy old.told))) in
    contents_weaker old.told (λ image. (copy ≡ said) × (said ≡ known_of (global image))) (λ image. copy ≡ known_of (global image)) (λ image both. both.0 ∙ both.1)
    (contents_both old.told (λ image. copy ≡ said) (λ image. said ≡ known_of (global image)) same (told_is_copy old.told))

-- ---- a command that is asked

module _ (session : ℕ) (c : Command) (came : Came) (known fresh : Option Known) (before after : AllDoing) (old new : Outside) where
  -- whatever the tables are
  pub comes_anyhow : IfSome fresh (λ k. k ≡ known_or known old.told) → ((copy : Known) → ComesOfAsking session c came copy copy before after old new) → ComesWithTables session c came known fresh before after old new
  comes_anyhow keeps comes = record {
    copy = known_or known old.told;
    last = known_or known old.told;
    is_copy = λ steady is. known_or_is_copy known old.told is;
    keeps = keeps;
    comes = comes (known_or known old.told);
  }

-- with this copy, which was kept or read
pub comes_by : (session : ℕ) (c : Command) (came : Came) (known : Option Known) (copy last : Known) (before after : AllDoing) (old now new : Outside) → before session ≡ Resting None → now.told ≡ old.told → IsLater old now → IsLater now new
    → (IfSome known (λ k. IsCopy k old.told) → IsCopy copy old.told) → ComesOfAsking session c came copy last before after now new → ComesWithTables session c came known (Some last) before after old new
comes_by session c came known copy last before after old now new rests same later more is_copy comes = record {
  copy = copy;
  last = last;
  is_copy = λ steady is. is_copy is;
  keeps = refl;
  comes = comes_later session c came copy last before after old now new rests same later more comes;
}

-- what its session left is settled first
pub comes_settled : (session : ℕ) (c : Command) (known fresh : Option Known) (before mid after : AllDoing) (old now new : Outside) → IsThen before session (Resting None) mid → ((t : ℕ) → live_of (mid t) ≡ live_of (before t)) → Becomes old now before mid
    → (AreSteady before old → IsTidied (SettleStep (before session)) old.told now.told) → IsLater old now → IsLater now new → (came : Came)
    → ((op : Op) → left_of (before session) ≡ Some op → AreSteady before old → (reply_of came ≡ Some reply.Memory → ⊥) → (StoreRoseBy 1 old now → ⊥) → IfContents now.told (IsSettledOp op))
    → ComesWithTables session c came known fresh mid after now new → ComesWithTables session c came known fresh before after old new
comes_settled session c known fresh before mid after old now new first same part tidied later more came settles w = record {
  copy = w.copy;
  last = w.last;
  is_copy = λ steady is. copy_back session before mid old now part steady (tidied steady) w.copy (w.is_copy (part.steady steady) (if_some known (λ k. IsCopy k old.told) (λ k. IsCopy k now.told) (λ k. part.copy k steady) is));
  keeps = w.keeps;
  comes = comes_after session c w.copy w.last before mid after old now new first same part tidied later more came settles w.comes;
}
