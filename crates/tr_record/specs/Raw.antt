-- The fields of a record's text.
use Rattle.tr_record.specs.Records.{Entry, entry}
use Rattle.tr_record.specs.declared.raw.RawRec.{RawRec}

-- the record with these fields
abbrev pub entry_of : RawRec → Entry
entry_of r = entry r.serial r.moment r.id r.payload.now
