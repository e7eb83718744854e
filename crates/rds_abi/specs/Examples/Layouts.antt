-- Items, blocks, states and rules in C's layout.
use Rattle.std.specs.Prelude.{◌≡◌, [], ◌∷◌, None, Some, refl, replicate, true}
use Rattle.rds_code.specs.declared.offset.Offset.TheVariants as offset
use Rattle.rds_code.specs.declared.reading.{Reading.TheVariants.Valid, Reading.TheVariants.Corrected, Reading.TheVariants.Lost, Wanted.TheVariants.OnlyC, Wanted.TheVariants.Either}
use Rattle.rds_sync.specs.{declared.item.Block.TheVariants.Read, declared.item.Item.TheVariants.Acquired, declared.item.Item.TheVariants.Group, declared.item.Item.TheVariants.LostLock, declared.item.Version.TheVariants.B, declared.loss.Loss.TheVariants.Run, declared.loss.Loss.TheVariants.Share, declared.state.State.TheVariants.Locked, declared.state.State.TheVariants.Searching, Step.lock_of}
use Rattle.rds_abi.specs.{Asked.loss_of, Blocks.block_wanted, Stream.stream_of, Stream.unheard, Ranges.searching_in_c, Ranges.state_of, Layout.item_in_c, Layout.no_block, declared.layout.RdsRules.RdsRules}
use Rattle.rds_live.specs.StreamDecoder.{Terms, live_of}

-- a group with a block of each kind
pub each_kind : item_in_c (Group (record {
  place = 104;
  blocks = Read (Valid offset.A 0xD393) ∷ Read (Corrected offset.B 0x1234 6) ∷ Read (Valid offset.Cx 1) ∷ Read Lost ∷ [];
  kind = Some 1;
  version = B;
  conflict = true;
}))
    ≡ record {
      place = 104;
      blocks = record { burst = 0; info = 0xD393; kind = 2; offset = 1 }
          ∷ record { burst = 6; info = 0x1234; kind = 3; offset = 2 }
          ∷ record { burst = 0; info = 1; kind = 2; offset = 4 }
          ∷ record { burst = 0; info = 0; kind = 1; offset = 0 } ∷ [];
      what = 2;
      number = 1;
      version = 2;
      conflict = 1;
      unused = 0;
    }
each_kind = refl

-- an acquisition and a loss have no blocks
pub acquired : item_in_c (Acquired 51 2)
    ≡ record { place = 51; blocks = no_block ∷ no_block ∷ no_block ∷ no_block ∷ []; what = 1; number = 2; version = 0; conflict = 0; unused = 0 }
acquired = refl

pub lost : item_in_c (LostLock 999)
    ≡ record { place = 999; blocks = no_block ∷ no_block ∷ no_block ∷ no_block ∷ []; what = 3; number = 0; version = 0; conflict = 0; unused = 0 }
lost = refl

-- ten in a row, and five of the last twenty
abbrev pub in_a_row : RdsRules
in_a_row = record { burst = 2; reach = 3; loss = 10; of = 0; reserved = replicate 4 0 }

abbrev pub of_twenty : RdsRules
of_twenty = record { burst = 2; reach = 3; loss = 5; of = 20; reserved = replicate 4 0 }

pub run_of_ten : loss_of in_a_row ≡ Run 10
run_of_ten = refl

pub five_of_twenty : loss_of of_twenty ≡ Share 5 20
five_of_twenty = refl

-- a lock, and a search
pub three_in_a_row : state_of (record { due = 100; bad = 3; number = 2; first = 1; loss = 10; of = 0; reserved = 0 }) ≡ Locked (lock_of 100 2 3 1)
three_in_a_row = refl

pub zeros : state_of searching_in_c ≡ Searching
zeros = refl

-- of a stream of zeros nothing was heard
pub nothing_heard : (terms : Terms) → stream_of terms unheard ≡ live_of terms []
nothing_heard terms = refl

-- offsets by number
pub c_alone : block_wanted 3 ≡ Some (3, OnlyC)
c_alone = refl

pub c_or_c_prime : block_wanted 6 ≡ Some (3, Either)
c_or_c_prime = refl

pub no_offset : block_wanted 7 ≡ None
no_offset = refl
