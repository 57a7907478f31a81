-- What a shard keeps it keeps along several calls.
use Rattle.std.proofs.Common.{refl, ◌∙◌}
use Rattle.r6_shard.specs.declared.performs.Performs.{Ghosts}
use Rattle.r6_shard.specs.declared.shard.Shard.{Shard}
use Rattle.r6_shard.specs.Shards.{SameLedger}
use Rattle.r6_shard.specs.Advances.{Advances}
use Rattle.r6_shard.proofs.Lasting.{lasts_none, lasts_on}

pub advances-none : {P : Type 0} {g : Ghosts P} (shard : Shard P g) → Advances shard shard
advances-none shard =
    record {
      course = λ s ops z. z;
      lasts = lasts_none shard.core;
      remembers = λ z. z;
      sound = λ shape number slot z. z;
      labels_stay = refl;
      room_stays = refl;
      site_stays = refl;
      here = λ slot z. z;
    }

pub same-on : {P : Type 0} {g : Ghosts P} (old mid new : Shard P g) → SameLedger old mid → SameLedger mid new → SameLedger old new
same-on old mid new x y = record { asked = y.asked ∙ x.asked; entries = y.entries ∙ x.entries; room = y.room ∙ x.room }

pub advances-on : {P : Type 0} {g : Ghosts P} (old mid new : Shard P g) → Advances old mid → Advances mid new → Advances old new
advances-on old mid new x y =
    record {
      course = λ s ops z. y.course s ops (x.course s ops z);
      lasts = lasts_on old.core mid.core new.core x.lasts y.lasts;
      remembers = λ z. x.remembers (y.remembers z);
      sound = λ shape number slot z. y.sound shape number slot (x.sound shape number slot z);
      labels_stay = y.labels_stay ∙ x.labels_stay;
      room_stays = y.room_stays ∙ x.room_stays;
      site_stays = y.site_stays ∙ x.site_stays;
      here = λ slot z. y.here slot (x.here slot z);
    }
