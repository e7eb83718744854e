-- Devices through which nothing has gone yet: this project's rule. `do_as_asked` and the functions that it hands devices to require it.
use Rattle.std.specs.Prelude.{◌≡◌, [], false}
use Rattle.rds_tool.specs.{Ends.given_by, Ends.has_ended, Ends.is_flushed, Ends.read_failures, Ends.taken_by, Ends.write_failures, declared.devices.FromRead.FromRead, declared.devices.ToWrite.ToWrite}
use Rattle.rds.specs.declared.sealed.Sealed.{Sealed}

-- nothing was read
pub record IsUnread {R : Type 0} (reader : Sealed (FromRead R)) : Type 0 where
  pub given : given_by reader.device ≡ []
  pub ended : has_ended reader.device ≡ false
  pub failures : read_failures reader.device ≡ 0

-- nothing was written
pub record IsUnwritten {W : Type 0} {g : _} (writer : Sealed (ToWrite W g)) : Type 0 where
  pub taken : taken_by writer.device ≡ []
  pub flushed : is_flushed writer.device ≡ false
  pub failures : write_failures writer.device ≡ 0
