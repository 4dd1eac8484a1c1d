-- A PROTO is two bytes, and admitted if its protocol is one of those known.
use Rattle.pkread.proofs.Bytes.Front.{proto_front}
use Rattle.pkread.proofs.front.proto_length.Goals as goal

pub returns : goal.returns
returns g limits some =
    proto_front limits g.args.bytes.now g.if-bytes-lt2.false g.requires.code
    g.if-bytes-gt-HIGHEST_PROTOCOL.false
