use Rattle.page_cli.proofs.complaint.put_complaint.Goals as goal

pub returns-in-TooLong : goal.returns-in-TooLong
returns-in-TooLong g c = rw c.in-TooLong.is (rw (c.as_bytes.ensures.value, c.name_of.ensures) at c.put_named.ensures)

pub returns-in-ReadFault : goal.returns-in-ReadFault
returns-in-ReadFault g c = rw c.in-ReadFault.is (rw (c.as_bytes-in-ReadFault.ensures.value, c.name_of-in-ReadFault.ensures) at c.put_named-in-ReadFault.ensures)

pub returns-in-WriteFault : goal.returns-in-WriteFault
returns-in-WriteFault g c = rw c.in-WriteFault.is c.put-in-WriteFault.ensures

pub returns-in-OutOfMemory : goal.returns-in-OutOfMemory
returns-in-OutOfMemory g c = rw c.in-OutOfMemory.is c.put-in-OutOfMemory.ensures
