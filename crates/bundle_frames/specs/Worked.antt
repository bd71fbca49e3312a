-- One of each frame, with a value other than zero in each field.
use Rattle.std.specs.Prelude.{pos, negsuc, ◌+◌, ◌^◌, true, [], ◌∷◌, codes}
use Rattle.market_types.specs.declared.order.Side.TheVariants as side
use Rattle.market_types.specs.declared.order.Enter.{Enter}
use Rattle.market_types.specs.declared.order.Token.{Token}
use Rattle.market_types.specs.declared.message.Body.{Body}
use Rattle.market_types.specs.declared.message.Quote.{Quote}
use Rattle.market_types.specs.Told.{EventTold, EditTold}
use Rattle.bundle_frames.specs.declared.closing.ClosingCounts.{ClosingCounts}
use Rattle.bundle_frames.specs.declared.closing.ClosingStock.{ClosingStock}
use Rattle.bundle_frames.specs.declared.closing.ClosingOrder.{ClosingOrder}
use Rattle.bundle_frames.specs.declared.closing.ClosingAgent.{ClosingAgent}

abbrev pub worked_token : Token
worked_token = record { 0 = codes "T0001000000001" }

-- an order to sell
abbrev pub worked_order : Enter
worked_order = record {
  token = worked_token;
  side = side.Sell;
  shares = 0x010203;
  stock = record { 0 = codes "ABM     " };
  price = 0x04050607;
  tif = 0x08090a0b;
  firm = codes "ABID";
  display = 89;
  capacity = 80;
  sweep = 78;
  minimum = 0x0c0d0e0f;
  cross = 79;
  customer = 82;
}

-- a message of this body that is put back, with a fee of -2
abbrev pub worked_event : Body → EventTold
worked_event body = record {
  number = 0x01020304;
  time = 0x05060708090a0b0c;
  seq = 0x1112131415161718;
  from = 0x2122;
  to = 0x2324;
  put_back = true;
  until = 0x3132333435363738;
  fee = negsuc 1;
  body = body;
  before = [];
  after = [];
}

-- a quote
abbrev pub worked_quote : Quote
worked_quote = record {
  stock = 0x0809;
  state = 72;
  bid = 0x11121314;
  bid_shares = 0x2122232425262728;
  ask = 0x31323334;
  ask_shares = 0x4142434445464748;
  last = 0x51525354;
}

-- an edit
abbrev pub worked_edit : EditTold
worked_edit = record {
  events = 0x01020304;
  time = 0x05060708090a0b0c;
  branch = 0x1112;
  index = 0x1314;
  letter = 84;
  feed = [];
}

-- the counters of a state whose queue was full
abbrev pub worked_counts : ClosingCounts
worked_counts = record {
  end = 70;
  events = 0x01020304;
  time = 0x05060708090a0b0c;
  next_seq = 0x1112131415161718;
  waiting = 0x21222324;
  dropped = 0x3132333435363738;
  enters = 0x4142434445464748;
  cancels = 0x5152535455565758;
  orders = 0x6162636465666768;
  matches = 0x7172737475767778;
}

-- a halted stock, with fees of -2^70 - 5 and an offset of -7
abbrev pub worked_stock : ClosingStock
worked_stock = record {
  stock = 0x0102;
  state = 72;
  last = 0x11121314;
  matched = 0x2122232425262728;
  fees = negsuc (2 ^ 70 + 4);
  offset = negsuc 6;
  live = 0x41424344;
}

-- a live order to sell, with a token that no order may have
abbrev pub worked_live_order : ClosingOrder
worked_live_order = record {
  reference = 0x0102030405060708;
  agent = 0x1112;
  token = record { 0 = codes "T-9 ??????????" };
  side = side.Sell;
  intended = 0x21222324;
  left = 0x31323334;
  stock = 0x0102;
  price = 0x51525354;
  tif = 0x61626364;
  shown = true;
}

-- a silenced agent, with cash of -2^65 - 3 and 2^66 + 9, a position of -6 of its own and two settled ones
abbrev pub worked_agent : ClosingAgent
worked_agent = record {
  agent = 0x0506;
  silenced = true;
  time = 0x1112131415161718;
  tokens = 0x21222324;
  draws = 0x3132333435363738;
  cash = negsuc (2 ^ 65 + 2);
  own_cash = pos (2 ^ 66 + 9);
  own_position = negsuc 5;
  live = 0x4142;
  quotes = 0x51525354;
  positions = negsuc 2 ∷ pos 0x0102030405060708 ∷ [];
}
