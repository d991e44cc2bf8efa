mod SimpleValues
