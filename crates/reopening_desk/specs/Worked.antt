-- One of each frame, with a value other than zero in each field, and a stock that would reopen.
use Rattle.std.specs.Prelude.{codes}
use Rattle.market_types.specs.declared.order.Side.TheVariants.{Sell}
use Rattle.reopen_cross.specs.declared.cross.Cross.{Cross}
use Rattle.reopen_cross.specs.declared.cross.Part.{Part}
use Rattle.reopening_desk.specs.declared.whole.Reopening.{Reopening}

abbrev pub worked_part : Part
worked_part = record { side = Sell; reference = 0x0102030405060708; shares = 0x11121314 }

abbrev pub worked_cross : Cross
worked_cross = record {
  price = 0x01020304;
  shares = 0x1112131415161718;
  buys = 0x2122232425262728;
  sells = 0x3132333435363738;
  cut = 0x41424344;
  below = 0x5152535455565758;
  above = 0x6162636465666768;
}

-- the first stock, 1000 nanoseconds past midnight, before its first match
abbrev pub at_a_thousand : Reopening
at_a_thousand = record { time = 1000; locate = 1; symbol = record { 0 = codes "ABM     " }; matches = 0 }
